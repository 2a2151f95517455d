-- The memory room: what is remembered at a position is recalled there, and nowhere else. Assumes nothing.
use Rattle.std.specs.Prelude.{◌≡◌, refl, List, ℕ, suc, ◌+◌, ◌-◌, ◌*◌, ◌/◌, ◌%◌, ◌≤◌, ◌<◌, length, get_or, drop, set, replicate}
use Rattle.std.proofs.Common.{sym, ap, subst, ◌∙◌, arith, get_or-set_same, get_or-set_other, drop-set-lt, div-add-mod', mul-le-mul_right, sub-eq-zero_of_le, lt_of_mul-lt-mul_right, suc-mul, mod-lt, mod-eq_of_lt}
use Rattle.std.proofs.Math.Decide.{ℕ_discrete, dec_lt}
use Rattle.std.proofs.lemmas.List.{length-replicate, get_or-replicate}
use Rattle.basics.specs.Lists.{at}
use Rattle.basics.specs.Rooms.{front}
use Rattle.std.proofs.Math.ListN.{get_or-append}
use Rattle.scans.specs.declared.memory.Place.{Place}
use Rattle.scans.specs.Remember.{remember}
use Rattle.scans.specs.inside.Slots.{recalled, remembered, place_of, Stands}
use Rattle.scans.specs.inside.Window.{Memory, Kept}
use Rattle.scans.specs.laws.Remember.{remember-at, remember_other}
use Rattle.std.proofs.Math.Nat.{add-sub_cancel_left, mul-add-mod_self_right, mod-eq-sub-mod, zero-mod}

-- two positions of one slot lie m apart
pub apart : (m h g : ℕ) → h < g → g % m ≡ h % m → h + m ≤ g
apart m h g later same =
    let k : h / m * m < g / m * m = omega (arith, div-add-mod' h m, div-add-mod' g m) in
    let l : suc (h / m) * m ≤ g / m * m = mul-le-mul_right m (lt_of_mul-lt-mul_right m k) in
    omega (arith, div-add-mod' h m, div-add-mod' g m, suc-mul (h / m) m)

module _ (mem : List ℕ) (m h v : ℕ) where
  -- what was remembered at h is recalled there
  pub recalled-same : h % m < length mem → recalled (remembered mem m h v) m h ≡ v
  recalled-same fits = ap (λ (e : ℕ). e - h) (get_or-set_same mem (h % m) (h + v) 0 fits) ∙ add-sub_cancel_left h v

  -- nothing changes at another slot
  pub recalled_other : (g : ℕ) → (g % m ≡ h % m → ⊥) → recalled (remembered mem m h v) m g ≡ recalled mem m g
  recalled_other g other = ap (λ (e : ℕ). e - g) (get_or-set_other mem (h % m) (g % m) (h + v) 0 other)

  -- a later position of the slot has nothing remembered
  pub recalled-later : (g : ℕ) → h % m < length mem → v ≤ m → h < g → g % m ≡ h % m → recalled (remembered mem m h v) m g ≡ 0
  recalled-later g fits small later same =
      ap (λ (k : ℕ). get_or (remembered mem m h v) k 0 - g) same
      ∙ ap (λ (e : ℕ). e - g) (get_or-set_same mem (h % m) (h + v) 0 fits)
      ∙ sub-eq-zero_of_le (omega (arith, apart m h g later same))

-- THE STEP OF THE SCAN. From j on the room says what R says, and R is 0 past the window; after v is remembered at the window's last place e the room says what R' says, from any later window on
module _ (mem : List ℕ) (m j e v : ℕ) (R R' : ℕ → ℕ)
    (pos : 0 < m)
    (room : m ≤ length mem)
    (small : v ≤ m)
    (end : e + 1 ≡ j + m)
    (says : (h : ℕ) → j ≤ h → recalled mem m h ≡ R h)
    (past : (h : ℕ) → e < h → R h ≡ 0)
    (here : R' e ≡ v)
    (else : (h : ℕ) → (h ≡ e → ⊥) → R' h ≡ R h) where
  fits : e % m < length mem
  fits = omega (arith, mod-lt e pos, room)

  -- a place in the same slot is e itself, or one past it
  same_slot : (h : ℕ) → j ≤ h → (h ≡ e → ⊥) → h % m ≡ e % m → Dec (e < h) → recalled (remembered mem m e v) m h ≡ R' h
  same_slot h from other same (yes later) = recalled-later mem m e v h fits small later same ∙ sym (else h other ∙ past h later)
  same_slot h from other same (no early) = absurd (omega (arith, end, from, pos, apart m h e (omega (arith, early, other)) (sym same)))

  slots : (h : ℕ) → j ≤ h → Dec (h ≡ e) → Dec (h % m ≡ e % m) → recalled (remembered mem m e v) m h ≡ R' h
  slots h from (yes same) slot = ap (recalled (remembered mem m e v) m) same ∙ recalled-same mem m e v fits ∙ sym (ap R' same ∙ here)
  slots h from (no other) (yes same) = same_slot h from other same (dec_lt e h)
  slots h from (no other) (no slot) = recalled_other mem m e v h slot ∙ says h from ∙ sym (else h other)

  pub step : (h : ℕ) → j ≤ h → recalled (remembered mem m e v) m h ≡ R' h
  step h from = slots h from (ℕ_discrete h e) (ℕ_discrete (h % m) (e % m))

-- the slot of a place d on
module _ (m j d : ℕ) where
  parts : j + d ≡ j / m * m + (j % m + d)
  parts = omega (arith, div-add-mod' j m)

  slot_within : j % m + d < m → (j + d) % m ≡ j % m + d
  slot_within h = ap (λ (n : ℕ). n % m) parts ∙ mul-add-mod_self_right (j / m) m (j % m + d) ∙ mod-eq_of_lt h

  slot_around : m ≤ j % m + d → j % m + d < m + m → (j + d) % m ≡ j % m + d - m
  slot_around h l = ap (λ (n : ℕ). n % m) parts ∙ mul-add-mod_self_right (j / m) m (j % m + d) ∙ mod-eq-sub-mod h ∙ mod-eq_of_lt (omega arith)

-- the first place
pub place_first : (m : ℕ) → Stands m 0 (record { at = 0; slot = 0 })
place_first m = record { is = λ k. record { at = 0; slot = sym (zero-mod m) k } }

-- v remembered at the end of the window at j, or nothing where it is 0
module _ (m : ℕ) (mem : List ℕ) (j top : ℕ) (pos : 0 < m) (under : top < j + m) where
  pub kept_none : Kept m mem j top 0 mem top
  kept_none =
      record {
        memory = λ R g. record {
          says = λ h l. g.says h l ∙ sym (same R (λ e. g.quiet (j + m - 1) (omega arith)) h);
          quiet = λ h l. same R (λ e. g.quiet (j + m - 1) (omega arith)) h ∙ g.quiet h l;
        };
        rest = refl;
        under = omega arith;
      }
    where
      same : (R : ℕ → ℕ) → (ℕ → R (j + m - 1) ≡ 0) → (h : ℕ) → remember R (j + m - 1) 0 h ≡ R h
      same R z h = go (ℕ_discrete h (j + m - 1))
        where
          go : Dec (h ≡ j + m - 1) → remember R (j + m - 1) 0 h ≡ R h
          go (yes q) = rw q (remember-at R (j + m - 1) 0 ∙ sym (z 0))
          go (no q) = remember_other R (j + m - 1) 0 h q

  pub kept_some : (v : ℕ) → v ≤ m → m ≤ length mem → Kept m mem j top v (remembered mem m (j + m - 1) v) (j + m)
  kept_some v small room =
      record {
        memory = λ R g. record {
          says = step mem m j (j + m - 1) v R (remember R (j + m - 1) v) pos room small (omega arith) g.says (λ h l. g.quiet h (omega arith))
              (remember-at R (j + m - 1) v) (λ h q. remember_other R (j + m - 1) v h q);
          quiet = λ h l. remember_other R (j + m - 1) v h (omega arith) ∙ g.quiet h (omega arith);
        };
        rest = drop-set-lt m mem ((j + m - 1) % m) (j + m - 1 + v) (mod-lt (j + m - 1) pos);
        under = omega arith;
      }

-- a room that was cleared says nothing
pub cleared : (m : ℕ) (mem d : List ℕ) → 0 < m → mem ≡ front (replicate m 0) d → Memory m mem 0 0 (λ h. 0)
cleared m mem d pos e =
    record {
      says = λ h l.
          let z : at mem (h % m) ≡ 0 =
          ap (λ (n : List ℕ). at n (h % m)) e
          ∙ get_or-append (replicate m 0) (drop (length (replicate {A = ℕ} m 0)) d) 0 (h % m) (omega (arith, length-replicate {A = ℕ} m 0, mod-lt h pos))
          ∙ get_or-replicate m (h % m) 0 0 (mod-lt h pos) in
          sub-eq-zero_of_le (omega arith);
      quiet = λ h l. refl;
    }

-- a place that is right
module _ (m : ℕ) (p : Place) (pos : 0 < m) (g : Stands m p.at p) where
  slot_is : p.slot ≡ p.at % m
  slot_is = ap (λ (p : Place). p.slot) g.is

  pub place_slot : p.slot < m
  place_slot = omega (arith, slot_is, mod-lt p.at pos)

  pub on_within : (d : ℕ) → p.slot + d < m → Stands m (p.at + d) (record { at = p.at + d; slot = p.slot + d })
  on_within d h =
      let e : p.slot + d ≡ (p.at + d) % m = omega (arith, slot_is, slot_within m p.at d (omega (arith, slot_is))) in
      record { is = λ k. record { at = p.at + d; slot = e k } }

  pub on_around : (d : ℕ) → d ≤ m → m ≤ p.slot + d → Stands m (p.at + d) (record { at = p.at + d; slot = p.slot + d - m })
  on_around d l h =
      let e : p.slot + d - m ≡ (p.at + d) % m = omega (arith, slot_is, slot_around m p.at d (omega (arith, slot_is)) (omega (arith, slot_is, place_slot))) in
      record { is = λ k. record { at = p.at + d; slot = e k } }

pub place_at : {m n : ℕ} {p : Place} → Stands m n p → p.at ≡ n
place_at g = ap (λ (p : Place). p.at) g.is

pub place_again : {m n : ℕ} {p : Place} → Stands m n p → Stands m p.at p
place_again {m} g = record { is = g.is ∙ ap (place_of m) (sym (place_at g)) }

-- what is read at a right place
pub place-recalled : (mem : List ℕ) (m : ℕ) (p : Place) → Stands m p.at p → get_or mem p.slot 0 - p.at ≡ recalled mem m p.at
place-recalled mem m p g = λ k. get_or mem (g.is k).slot 0 - (g.is k).at

-- the store at the last place of the window
pub kept_at : (m : ℕ) (mem : List ℕ) (j top v : ℕ) (e : Place) → 0 < m → top < j + m → v ≤ m → m ≤ length mem → Stands m (j + (m - 1)) e
    → Kept m mem j top v (set mem e.slot (e.at + v)) (e.at + 1)
kept_at m mem j top v e pos under small room g =
    let q : j + (m - 1) ≡ j + m - 1 = omega arith in
    let a : j + m ≡ j + m - 1 + 1 = omega arith in
    subst (λ (p : Place). Kept m mem j top v (set mem p.slot (p.at + v)) (p.at + 1)) (sym (rw q at g.is))
    (subst (λ (n : ℕ). Kept m mem j top v (remembered mem m (j + m - 1) v) n) a (kept_some m mem j top pos under v small room))
