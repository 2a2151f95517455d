-- The two round trips: what was written is read as it was given, and every accepted log is what the writer makes of its own contents. Assumes nothing.
use Rattle.std.specs.Prelude.{◌≡◌, refl, true, false, List, ℕ, ◌≤◌, ◌<◌, ltb, length, take, drop}
use Rattle.std.proofs.Common.{sym, ap, ◌∙◌, inl, ⊎_elim, arith, lt-ltb, le-ltb}
use Rattle.std.specs.Borrow.{Bor}
use Rattle.basics.specs.Lists.{at}
use Rattle.basics.specs.Refusal.{Cause}
use Rattle.basics.specs.Rooms.{front}
use Rattle.basics.specs.laws.Lists.{Bytes}
use Rattle.basics.specs.laws.Tests.{equal_or_not, le_or_lt}
use Rattle.drawlog.specs.Log.{count}
use Rattle.drawlog.specs.Refusal as log
use Rattle.drawlog.specs.Promise.{Tested, Listed, tested_of, seek, found_of, listed_of, BlockOf, BlockAt}
use Rattle.drawlog.specs.Reader.{opened, left, Handed, ahead, skipped}
use Rattle.drawlog.specs.laws.Refusal as law
use Rattle.drawlog.specs.laws.Promise.{tested_yes, tested_no, found_none, listed_at, listed_none, find_listed, seek_is}
use Rattle.drawlog.specs.laws.Reader.{reads_block}
use Rattle.writer.specs.Made.{sum_to, made}
use Rattle.writer.specs.Promise.{Written, Writing}
use Rattle.writer.specs.Contents.{blocks_of, ids_of, lengths_of}
use Rattle.writer.specs.Inside.{Fit}
use Rattle.writer.specs.laws.Promise.{written_fit, written_log, written_done}
use Rattle.writer.specs.laws.Reading.{count-made, id_made, start_made, size_made, block_made, made-accepted}
use Rattle.writer.specs.laws.Remaking.{remade, contents_fit}

-- block k of the block bytes b, of these lengths
abbrev pub block_of : List ℕ → List ℕ → ℕ → List ℕ
block_of b ns k = take (at ns k) (drop (sum_to ns k) b)

-- READING WHAT WAS WRITTEN: `write` was given 32-bit ids, refused nothing and left the room d'; l is the log at its front
module _ {b is ns d d' : List ℕ} {r : Written} (w : Writing b is ns d r d') (z : r.refusal ≡ 0) (small : (k : ℕ) → at is k < 4294967296)
    (l : Bor (List ℕ)) (read : l.now ≡ take r.length d') where
  fit : Fit b is ns (length d)
  fit = written_fit w z

  log_is : l.now ≡ made b is ns
  log_is = read ∙ written_log w z

  good : law.Accepted (made b is ns)
  good = made-accepted b is ns fit small

  -- the log test accepts it, with as many replicates
  pub test_accepts : tested_of l.now ≡ record { refusal = 0; entry = 0; count = length is }
  test_accepts = rw log_is (tested_yes (made b is ns) (ap (λ (c : Cause). c.refusal) good.cause) ∙ rw (count-made b is ns fit))

  counted : (tested_of l.now).count ≡ length is
  counted = ap (λ (t : Tested). t.count) test_accepts

  -- entry k has the id and the length that were given
  pub entry_answers : (k : ℕ) → k < length is
      → listed_of l.now k ≡ record { refusal = 0; entry = 0; there = true; id = at is k; start = sum_to ns k; length = at ns k }
  entry_answers k h =
      listed_at l.now k (omega (arith, counted))
      ∙ rw (test_accepts, log_is, id_made b is ns fit k h (small k), start_made b is ns fit k h, size_made b is ns fit k h)

  -- and there are no more
  pub entry_ends : (k : ℕ) → length is ≤ k → (listed_of l.now k).there ≡ false
  entry_ends k h = ap (λ (e : Listed). e.there) (listed_none l.now k (omega (arith, counted)))

  -- the lookup finds each id that was given
  pub find_answers : (k : ℕ) → k < length is → found_of l.now (at is k) ≡ record { refusal = 0; entry = 0; start = sum_to ns k; length = at ns k }
  find_answers k h = rw (entry_answers k h) at (find_listed l.now k (ap (λ (e : Listed). e.there) (entry_answers k h)))

  -- and no other
  pub find_refuses : (id : ℕ) → ((k : ℕ) → k < length is → at is k ≡ id → ⊥) → found_of l.now id ≡ record { refusal = 18; entry = 0; start = 0; length = 0 }
  find_refuses id none =
      let s = made b is ns in
      let sought : seek s id ≡ count s =
      seek_is (law.framed_reaches good.frame refl (count s) (omega arith)) id (count s) (omega arith)
      (λ j u q. let h : j < length is = omega (arith, count-made b is ns fit) in none j h (sym (id_made b is ns fit j h (small j)) ∙ q))
      (inl refl) in
      rw log_is (found_none s (ap (λ (c : Cause). c.refusal) good.cause) id (omega (arith, sought)))

  -- each block is the one that was given: by its id, by its entry number, and from the reader after k others
  same_block : (k : ℕ) → k < length is → take (at ns k) (drop (sum_to ns k) l.now) ≡ block_of b ns k
  same_block k h = rw log_is (block_made b is ns fit k h)

  pub block_given : (k : ℕ) → k < length is → (c : Bor (List ℕ)) → BlockOf l (at is k) c → c.now ≡ block_of b ns k
  block_given k h c t = t.bytes ∙ rw (find_answers k h) (same_block k h)

  pub block-at_given : (k : ℕ) → k < length is → (c : Bor (List ℕ)) → BlockAt l k c → c.now ≡ block_of b ns k
  block-at_given k h c t = t.bytes ∙ rw (entry_answers k h) (same_block k h)

  pub reader_gives : (k : ℕ) → k < length is → (c : Bor (List ℕ)) → Handed (skipped (opened l) k) c → c.now ≡ block_of b ns k
  reader_gives k h c t = block-at_given k h c (reads_block l k c t)

  -- after k blocks the reader has one left exactly while there are more
  pub reader_ends : (k : ℕ) → left (skipped (opened l) k) ≡ ltb k (length is)
  reader_ends k =
      ⊎_elim
      (λ (h : length is ≤ k). le-ltb (ahead l.now 0 k) (tested_of l.now).count (omega (arith, counted)) ∙ sym (le-ltb k (length is) h))
      (λ (h : k < length is). lt-ltb (ahead l.now 0 k) (tested_of l.now).count (omega (arith, counted)) ∙ sym (lt-ltb k (length is) h))
      (le_or_lt (length is) k)

-- MAKING AN ACCEPTED LOG AGAIN: the log s is accepted by `test`
module _ (s : List ℕ) (bytes : Bytes s) (passes : (tested_of s).refusal ≡ 0) where
  accepted : law.Accepted s
  accepted =
      ⊎_elim
      (λ (a : (log.cause_of s).refusal ≡ 0). law.accepted_is s a)
      (λ (a : (log.cause_of s).refusal ≡ 0 → ⊥). absurd (a (sym (ap (λ (t : Tested). t.refusal) (tested_no s a)) ∙ passes)))
      (equal_or_not (log.cause_of s).refusal 0)

  -- it is, byte for byte, the log that is made of its own blocks, ids and lengths
  pub made_again : made (blocks_of s) (ids_of s) (lengths_of s) ≡ s
  made_again = remade s bytes accepted

  -- and `write` puts it, of these, to the front of any room that holds it
  pub writes_again : {d d' : List ℕ} {r : Written} → length s ≤ length d → Writing (blocks_of s) (ids_of s) (lengths_of s) d r d'
      → (r ≡ record { refusal = 0; entry = 0; length = length s }) × (d' ≡ front s d)
  writes_again {d} h w = rw made_again at (written_done w (contents_fit s bytes accepted (length d) h))
