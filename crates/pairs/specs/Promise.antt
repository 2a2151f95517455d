-- What the check promises of its answer and its rooms, on success and on refusal; and that equal inputs give equal outcomes. Assumes nothing.
use Rattle.std.specs.Prelude.{◌≡◌, Result, Ok, Err, List, ℕ, zero, suc, length, replicate}
use Rattle.basics.specs.declared.refusal.Fault.{Fault}
use Rattle.basics.specs.Refusal.{number_of, Cause}
use Rattle.basics.specs.Rooms.{room_after}
use Rattle.drawlog.specs.Log.{draw_size, count}
use Rattle.drawlog.specs.Promise.{tested_of}
use Rattle.pairs.specs.declared.Checked.{Checked as Found}
use Rattle.pairs.specs.Check.{probe_size, Pair, pairs, unprobed, numbers}
use Rattle.pairs.specs.Refusal.{table_size, cause_of}

-- an offset counts where a draw begins
abbrev pub step : ℕ
step = draw_size

-- What the check answers: its refusal (0: none) with its entry number, and the number of pairs and of unprobed owners, both 0 on refusal.
pub record Checked : Type 0 where
  pub refusal : ℕ
  pub entry : ℕ
  pub pairs : ℕ
  pub unprobed : ℕ

-- what the code gives, read as that
abbrev pub checked_seen : Result Found Fault → Checked
checked_seen (Ok c) = record { refusal = 0; entry = 0; pairs = c.pairs; unprobed = c.unprobed }
checked_seen (Err f) = record { refusal = number_of f.refusal; entry = f.entry; pairs = 0; unprobed = 0 }

-- the answer beside this refusal (0: none) and its entry number: the number of pairs and of unprobed owners
unfoldable pub checked_of : ℕ → ℕ → List Pair → ℕ → Checked
checked_of zero k qs u = record { refusal = 0; entry = 0; pairs = length qs; unprobed = u }
checked_of (suc r) k qs u = record { refusal = suc r; entry = k; pairs = 0; unprobed = 0 }

-- the first cause to refuse the log s, probes of p draws, the room t for both tables, the memory room e and the result room d
abbrev pub cause : List ℕ → ℕ → List ℕ → List ℕ → List ℕ → Cause
cause s p t e d = cause_of (tested_of s) p (length t) (length e) (length d)

-- `check`, of the log s, probes of p draws and the rooms t, e, d: the answer is r, and the rooms end as t', e', d'
pub record Checking (s : List ℕ) (p : ℕ) (t e d : List ℕ) (r : Checked) (t' e' d' : List ℕ) : Type 0 where
  pub answer : r ≡ checked_of (cause s p t e d).refusal (cause s p t e d).entry (pairs step p s (count s)) (unprobed p s (count s))
  pub tables : t' ≡ room_after r.refusal (replicate (table_size p) 0) t
  pub memory : e' ≡ room_after r.refusal (replicate (probe_size p) 0) e
  pub result : d' ≡ room_after r.refusal (numbers (pairs step p s (count s))) d

pub check_once : {s : List ℕ} {p : ℕ} {t e d : List ℕ} {r r' : Checked} {t₁ e₁ d₁ t₂ e₂ d₂ : List ℕ} → Checking s p t e d r t₁ e₁ d₁
    → Checking s p t e d r' t₂ e₂ d₂ → (r ≡ r') × (t₁ ≡ t₂) × (e₁ ≡ e₂) × (d₁ ≡ d₂)
check_once p q = (cc, cc, cc, cc)
