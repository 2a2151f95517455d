-- Laws of the promise: how it is met on refusal and on success, and what it tells a caller. Assumes nothing.
use Rattle.std.specs.Prelude.{◌≡◌, refl, List, ℕ, zero, suc, ◌≤◌, length, take, drop, Result, Ok, Err}
use Rattle.std.proofs.Common.{sym, ap, ◌∙◌, ⊎_elim, arith, take_at}
use Rattle.basics.specs.Rooms.{front, room_after}
use Rattle.basics.specs.laws.Tests.{equal_or_not}
use Rattle.basics.specs.laws.Inlaid.{inlaid_front}
use Rattle.basics.specs.laws.Rooms.{room_kept}
use Rattle.basics.specs.Refusal.{Cause, fault_seen}
use Rattle.basics.specs.declared.refusal.Fault.{Fault}
use Rattle.drawlog.specs.Log.{longest}
use Rattle.basics.specs.laws.Refusal.{fault_same}
use Rattle.writer.specs.Made.{made}
use Rattle.writer.specs.Refusal.{cause_of}
use Rattle.writer.specs.Promise.{Written, written_seen, written_of, cause, Writing, write_once}
use Rattle.writer.specs.Inside.{Fit, Put}
use Rattle.writer.specs.laws.Made.{length-made}
use Rattle.writer.specs.laws.Refusal.{named, is_fit, fit_is}

-- THE ANSWER, by its cases
written_no : (r k size : ℕ) → (r ≡ 0 → ⊥) → written_of r k size ≡ record { refusal = r; entry = k; length = 0 }
unfolding written_of
written_no zero k size h = absurd (h refl)
written_no (suc r) k size h = refl

written_yes : (k size : ℕ) → written_of 0 k size ≡ record { refusal = 0; entry = 0; length = size }
unfolding written_of
written_yes k size = refl

-- HOW IT IS MET on refusal
pub refused_is : {b is ns d : List ℕ} {c : Cause} → c ≡ cause b is ns d → (c.refusal ≡ 0 → ⊥)
    → Writing b is ns d (record { refusal = c.refusal; entry = c.entry; length = 0 }) d
refused_is {b} {is} {ns} {d} {c} e h =
    record {
      answer = rw (← e) (sym (written_no c.refusal c.entry (length (made b is ns)) h));
      room = sym (room_kept c.refusal (made b is ns) d h);
    }

pub fault_is : {b is ns d : List ℕ} (f : Fault) → fault_seen f ≡ cause b is ns d → Writing b is ns d (written_seen (Err f)) d
fault_is f e = refused_is e (named f.refusal refl)

-- and on success: without a cause the inputs fit
pub granted : {b is ns : List ℕ} {n : ℕ} {c : Cause} → c ≡ cause_of b is ns n → c.refusal ≡ 0 → Fit b is ns n
granted {b} {is} {ns} {n} e z = fit_is b is ns n (ap (λ (x : Cause). x.refusal) (sym e) ∙ z)

pub done_is : {b is ns d d' : List ℕ} {z : ℕ} → Fit b is ns (length d) → Put d 0 (made b is ns) z d' → Writing b is ns d (record { refusal = 0; entry = 0; length = z }) d'
done_is {b} {is} {ns} {d} {d'} {z} f t =
    let size : z ≡ length (made b is ns) = omega (arith, t.after) in
    record { answer = rw (is_fit f, size) (sym (written_yes 0 (length (made b is ns)))); room = inlaid_front t.laid }

-- which is no longer than a log may be
pub done_short : {b is ns d d' : List ℕ} {n z : ℕ} → Fit b is ns n → Put d 0 (made b is ns) z d' → z ≤ longest
done_short {b} {is} {ns} f t = omega (arith, t.after, length-made b is ns, f.short)

-- WHAT IT TELLS A CALLER
module _ {b is ns d d' : List ℕ} {r : Written} (w : Writing b is ns d r d') where
  -- the answer's refusal is the cause's
  told : r.refusal ≡ (cause b is ns d).refusal
  told = ⊎_elim (λ (z : (cause b is ns d).refusal ≡ 0). answered ∙ rw z (ap (λ (a : Written). a.refusal) (written_yes _ _)))
      (λ (z : (cause b is ns d).refusal ≡ 0 → ⊥). answered ∙ ap (λ (a : Written). a.refusal) (written_no _ _ _ z)) (equal_or_not (cause b is ns d).refusal 0)
    where
      answered : r.refusal ≡ (written_of (cause b is ns d).refusal (cause b is ns d).entry (length (made b is ns))).refusal
      answered = ap (λ (a : Written). a.refusal) w.answer

  -- where nothing is refused, the inputs fit, and the room begins with the log, whose length is the answer's
  module _ (z : r.refusal ≡ 0) where
    pub written_fit : Fit b is ns (length d)
    written_fit = fit_is b is ns (length d) (sym told ∙ z)

    pub written_length : r.length ≡ length (made b is ns)
    written_length =
        ap (λ (a : Written). a.length) (w.answer ∙ ap (λ (c : Cause). written_of c.refusal c.entry (length (made b is ns))) (is_fit written_fit) ∙ written_yes 0 (length (made b is ns)))

    pub written_log : take r.length d' ≡ made b is ns
    written_log =
        ap (take r.length) (w.room ∙ ap (λ (n : ℕ). room_after n (made b is ns) d) z)
        ∙ take_at (made b is ns) (drop (length (made b is ns)) d) r.length (sym written_length)

  -- the length that is answered lies within the room
  pub written_within : r.length ≤ length d
  written_within = ⊎_elim
      (λ (z : r.refusal ≡ 0). omega (arith, written_length z, length-made b is ns, (written_fit z).held))
      (λ (z : r.refusal ≡ 0 → ⊥). omega (arith, ap (λ (a : Written). a.length) (w.answer ∙ written_no _ (cause b is ns d).entry (length (made b is ns)) (λ q. z (told ∙ q)))))
      (equal_or_not r.refusal 0)

  -- inputs that fit are not refused
  pub written_done : Fit b is ns (length d) → (r ≡ record { refusal = 0; entry = 0; length = length (made b is ns) }) × (d' ≡ front (made b is ns) d)
  written_done f =
      let z : r.refusal ≡ 0 = told ∙ ap (λ (c : Cause). c.refusal) (is_fit f) in (
        w.answer ∙ ap (λ (c : Cause). written_of c.refusal c.entry (length (made b is ns))) (is_fit f) ∙ written_yes 0 (length (made b is ns)),
        w.room ∙ ap (λ (n : ℕ). room_after n (made b is ns) d) z,
      )

-- THE OUTCOME ITSELF, which the answer tells whole: so equal inputs have equal outcomes
pub written_same : (r r' : Result ℕ Fault) → written_seen r ≡ written_seen r' → r ≡ r'
written_same (Ok n) (Ok n') e = ap Ok (ap (λ (a : Written). a.length) e)
written_same (Ok n) (Err f) e = absurd (named f.refusal (ap (λ (a : Written). a.refusal) (sym e)) refl)
written_same (Err f) (Ok n) e = absurd (named f.refusal (ap (λ (a : Written). a.refusal) e) refl)
written_same (Err f) (Err f') e = ap Err (fault_same f f' (ap (λ (a : Written). record { refusal = a.refusal; entry = a.entry }) e))

pub write_outcome : {b is ns d : List ℕ} {r r' : Result ℕ Fault} {d₁ d₂ : List ℕ} → Writing b is ns d (written_seen r) d₁ → Writing b is ns d (written_seen r') d₂
    → (r ≡ r') × (d₁ ≡ d₂)
write_outcome {r = r} {r' = r'} p q = let same = write_once p q in (written_same r r' same.0, same.1)
