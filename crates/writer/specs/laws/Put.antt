-- Laws of parts put into a room, each at the place where the last one ended. Assumes nothing.
use Rattle.std.specs.Prelude.{◌≡◌, refl, List, [], ◌∷◌, ◌++◌, ℕ, ◌+◌, ◌*◌, ◌/◌, ◌%◌, ◌≤◌, length}
use Rattle.std.proofs.Common.{sym, ap, ◌∙◌, add-one, arith, length-append}
use Rattle.basics.specs.Lists.{at}
use Rattle.basics.specs.laws.Inlaid.{inlaid_length, inlaid_none, inlaid_then}
use Rattle.drawlog.specs.Log.{entry_size}
use Rattle.drawlog.specs.Number.{bytes_of}
use Rattle.drawlog.specs.laws.Number.{bytes_are, length_bytes}
use Rattle.writer.specs.Made.{sum_to, entry_bytes, directory_bytes, trailer_bytes, made}
use Rattle.writer.specs.declared.put.Cursor.{Cursor}
use Rattle.writer.specs.Inside.{Put, Puts}
use Rattle.writer.specs.laws.Made.{length-directory}

pub put-length : {d w d' : List ℕ} {p r : ℕ} → Put d p w r d' → length d' ≡ length d
put-length t = inlaid_length t.laid

pub put-none : (d : List ℕ) (p : ℕ) → p ≤ length d → Put d p [] p d
put-none d p h = record { laid = inlaid_none d p h; after = omega arith }

pub put_then : {d w d₁ v d₂ : List ℕ} {p r q : ℕ} → Put d p w r d₁ → Put d₁ r v q d₂ → Put d p (w ++ v) q d₂
put_then {d} {w} {d₁} {v} t u =
    record {
      laid = inlaid_then t.laid t.after u.laid;
      after = rw (length-append w v) (omega (arith, t.after, u.after));
    }

-- where a number ends
pub put-number : (n : ℕ) {d d' : List ℕ} {p r : ℕ} → Put d p (bytes_of n) r d' → r ≡ p + 4
put-number n {d} {d'} {p} t = t.after ∙ ap (λ (k : ℕ). p + k) (length_bytes n)

-- one entry more, put where the entries before it ended
pub put_entry : (is ns : List ℕ) (k i a n : ℕ) {d d₁ d₂ : List ℕ} {p r q : ℕ} → Put d p (directory_bytes is ns k) r d₁
    → Put d₁ r (bytes_of i ++ (bytes_of a ++ bytes_of n)) q d₂ → i ≡ at is k → a ≡ sum_to ns k → n ≡ at ns k → Put d p (directory_bytes is ns (k + 1)) q d₂
unfolding directory_bytes entry_bytes
put_entry is ns k i a n t u x y z = rw add-one (put_then t (rw (x, y, z) at u))

-- where they end
pub put_entries : (is ns : List ℕ) (k : ℕ) {d d' : List ℕ} {p r : ℕ} → Put d p (directory_bytes is ns k) r d' → r ≡ p + entry_size * k
put_entries is ns k {d} {d'} {p} t = t.after ∙ ap (λ (n : ℕ). p + n) (length-directory is ns k)

-- the whole log: the trailer names the place where the blocks ended
pub put-made : (b is ns : List ℕ) {d d₁ d₂ d₃ : List ℕ} {r q z : ℕ} → Put d 0 b r d₁ → Put d₁ r (directory_bytes is ns (length is)) q d₂
    → Put d₂ q (trailer_bytes r (length is)) z d₃ → Put d 0 (made b is ns) z d₃
unfolding made
put-made b is ns {r = r} t u v = let e : r ≡ length b = omega (arith, t.after) in put_then t (put_then u (rw e at v))

-- a number's bytes, as the library takes them
pub word_bytes : (n : ℕ) → n % 256 ∷ n / 256 % 256 ∷ n / 65536 % 256 ∷ n / 16777216 % 256 ∷ [] ≡ bytes_of n
word_bytes n =
    let third : n / 65536 ≡ n / 256 / 256 = omega arith in
    let fourth : n / 16777216 ≡ n / 256 / 256 / 256 = omega arith in
    rw (third, fourth) (sym (bytes_are n))

-- THE CURSOR, after nothing, and after one list and another
pub puts_none : (c : Cursor) → c.place ≤ length c.room.now → Puts c [] c
puts_none c h = record { same = refl; put = put-none c.room.now c.place h }

pub puts_then : {c c₁ c₂ : Cursor} {w v : List ℕ} → Puts c w c₁ → Puts c₁ v c₂ → Puts c (w ++ v) c₂
puts_then t u = record { same = u.same ∙ t.same; put = put_then t.put u.put }

-- where it stands after a number, and after the first k entries, in a room as long as it was
pub puts_number : (n : ℕ) {c c' : Cursor} → Puts c (bytes_of n) c' → (c'.place ≡ c.place + 4) × (length c'.room.now ≡ length c.room.now)
puts_number n t = (put-number n t.put, put-length t.put)

pub puts_entries : (is ns : List ℕ) (k : ℕ) {c c' : Cursor} → Puts c (directory_bytes is ns k) c' → (c'.place ≡ c.place + entry_size * k) × (length c'.room.now ≡ length c.room.now)
puts_entries is ns k t = (put_entries is ns k t.put, put-length t.put)

-- one entry more
pub puts_entry : (is ns : List ℕ) (k i a n : ℕ) {c c₁ c₂ : Cursor} → Puts c (directory_bytes is ns k) c₁ → Puts c₁ (bytes_of i ++ (bytes_of a ++ bytes_of n)) c₂
    → i ≡ at is k → a ≡ sum_to ns k → n ≡ at ns k → Puts c (directory_bytes is ns (k + 1)) c₂
puts_entry is ns k i a n t u x y z = record { same = u.same ∙ t.same; put = put_entry is ns k i a n t.put u.put x y z }
