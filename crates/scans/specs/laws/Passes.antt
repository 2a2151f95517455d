-- What the window functions give, said of the passes of the definitions. Assumes nothing.
use Rattle.std.specs.Prelude.{◌≡◌, refl, Bool, true, false, List, ℕ, zero, suc, ◌+◌, ◌-◌, ◌≤◌, ◌<◌, eqb, length, Option, Some, None}
use Rattle.std.proofs.Common.{sym, ap, subst, ◌∙◌, add-zero, add-suc, arith, eqb-true}
use Rattle.std.proofs.lemmas.Bool.{eqb-false}
use Rattle.basics.specs.Lists.{at}
use Rattle.tables.specs.Suffix.{suffix_at}
use Rattle.scans.specs.declared.memory.Place.{Place}
use Rattle.scans.specs.Trace.{End, matched, stopped, Pass, more}
use Rattle.scans.specs.Plain.{plain_pass}
use Rattle.scans.specs.Remember.{mem_from, mem_pass}
use Rattle.scans.specs.inside.Slots.{recalled, Stands}
use Rattle.scans.specs.inside.Window.{stop_of, left_of, Within, Seen, seen_as, seen_of, Gone, passed_as, passed_of, Alike, Unlike, Ahead, Quiet}
use Rattle.scans.specs.laws.Slots.{place_at}
use Rattle.scans.specs.laws.Remember.{step_same, step_diff, step_skip, step_match, step_stop, mem_fuel, mem_left, mem_kept, plain_mem}

-- one comparison more
pub passed_more : (p : Pass) (c : ℕ) → passed_of (more p) c ≡ passed_of p (c + 1)
passed_more p c = let q : c + suc p.comps ≡ c + 1 + p.comps = omega arith in λ k. record { stop = stop_of p.end; kept = p.kept; count = q k }

module _ (x y : List ℕ) (R : ℕ → ℕ) (j : ℕ) where
  -- n equal bytes from index k on, with nothing remembered: n comparisons
  pub mem_over : (n k c : ℕ) → ((t : ℕ) → k ≤ t → t < k + n → R (j + t) ≡ 0) → ((t : ℕ) → k ≤ t → t < k + n → at y (j + t) ≡ at x t)
      → passed_of (mem_from x y R j (k + n) (k + n)) c ≡ passed_of (mem_from x y R j k k) (c + n)
  mem_over zero k c z e = rw (add-zero k, add-zero c)
  mem_over (suc n) k c z e =
      let u : c + 1 + n ≡ c + suc n = omega arith in
      rw (add-suc k n)
      (ap (λ (p : Pass). passed_of p c) (step_same x y R j (k + n) (k + n) (z (k + n) (omega arith) (omega arith)) (e (k + n) (omega arith) (omega arith)))
      ∙ passed_more (mem_from x y R j (k + n) (k + n)) c
      ∙ mem_over n k (c + 1) (λ t a b. z t a (omega arith)) (λ t a b. e t a (omega arith))
      ∙ ap (λ (n : ℕ). passed_of (mem_from x y R j k k) n) u)

  module _ (high low c c' : ℕ) (quiet : (t : ℕ) → low ≤ t → R (j + t) ≡ 0) where
    -- all bytes down to low are equal: the pass goes on from low
    ahead_all : low ≤ high → Alike x y j high low c c' → passed_of (mem_from x y R j high high) c ≡ passed_of (mem_from x y R j low low) c'
    ahead_all l a =
        let n : ℕ = high - low in
        let u : low + n ≡ high = omega arith in
        let v : c + n ≡ c' = omega (arith, a.count) in
        rw (u, v) at (mem_over n low c (λ t p q. quiet t p) (λ t p q. a.equal t p (omega arith)))

    -- two bytes are unequal: the pass stops
    ahead_some : (i : ℕ) → Unlike x y j high low c i c' → passed_of (mem_from x y R j high high) c ≡ passed_as (Some i) (length x - 1 - i) c'
    ahead_some i a =
        let n : ℕ = high - suc i in
        let u : suc i + n ≡ high = omega (arith, a.to) in
        let v : c + n + 1 ≡ c' = omega (arith, a.to, a.count) in
        let d : mem_from x y R j (suc i) (suc i) ≡ record { end = stopped i; comps = 1; kept = length x - 1 - i } = step_diff x y R j i i (quiet i a.from) a.stops in
        rw u at (mem_over n (suc i) c (λ t p q. quiet t (omega (arith, a.from))) (λ t p q. a.equal t (omega arith) (omega arith)))
        ∙ ap (λ (p : Pass). passed_of p (c + n)) d
        ∙ ap (passed_as (Some i) (length x - 1 - i)) v

abbrev seen : Gone → Seen
seen p = seen_as p.stop p.count

pub plain-ahead : (x y : List ℕ) (j c : ℕ) (r : Option ℕ) (c' : ℕ) → Ahead x y j (length x) 0 c r c' → (seen_as r c' ≡ seen_of (plain_pass x y j) c) × Within (length x) r
unfolding mem_from
plain-ahead x y j c None c' a =
    let q : c' ≡ c' + 0 = omega arith in (
      ap (seen_as None) q ∙ sym (ap seen (ahead_all x y (λ e. 0) j (length x) 0 c c' (λ t p. refl) (omega arith) a)) ∙ ap (λ (p : Pass). seen_of p c) (sym (plain_mem x y j (length x))),
      tt,
    )
plain-ahead x y j c (Some i) c' a =
    (sym (ap seen (ahead_some x y (λ e. 0) j (length x) 0 c c' (λ t p. refl) i a)) ∙ ap (λ (p : Pass). seen_of p c) (sym (plain_mem x y j (length x))), a.to)

-- THE REMEMBERING WINDOW, as the code takes it. First its last byte, of which nothing is remembered
module _ (x y mem : List ℕ) (j top c : ℕ) (some : 1 ≤ length x) (q : Quiet (length x) mem j top) where
  abbrev said : ℕ → ℕ
  said = recalled mem (length x)

  abbrev last : ℕ
  last = length x - 1

  whole : suc last ≡ length x
  whole = omega arith

  unknown : said (j + last) ≡ 0
  unknown = q.quiet (j + last) (omega arith) (omega (arith, q.under))

  module _ {c' : ℕ} {same : Bool} (told : same ≡ eqb (at y (j + last)) (at x last)) (one : c' ≡ c + 1) where
    pub last_equal : same ≡ true → {w : Gone} → w ≡ passed_of (mem_from x y said j last last) c' → w ≡ passed_of (mem_pass x y said j) c
    last_equal e p =
        p
        ∙ rw one (sym (passed_more (mem_from x y said j last last) c))
        ∙ ap (λ (p : Pass). passed_of p c) (sym (rw whole at (step_same x y said j last last unknown (eqb-true _ _ (sym told ∙ e)))))

    pub last_unequal : same ≡ false → passed_as (Some (length x - 1)) 0 c' ≡ passed_of (mem_pass x y said j) c
    last_unequal e =
        let none : 0 ≡ length x - 1 - last = omega arith in
        (λ k. passed_as (Some last) (none k) (one k))
        ∙ ap (λ (p : Pass). passed_of p c) (sym (rw whole at (step_diff x y said j last last unknown (eqb-false _ _ (sym told ∙ e)))))

-- a pass that stops, stops within its bytes
stop_within : (e : End) (k m : ℕ) → left_of e ≤ k → k ≤ m → Within m (stop_of e)
stop_within matched k m l u = tt
stop_within (stopped i) k m l u = omega arith

-- then the others: at `low` and above nothing is remembered, so there it only compares
module _ (x y mem : List ℕ) (j top low c c' : ℕ) (e : low ≡ top - j) (q : Quiet (length x) mem j top) where
  nothing : (t : ℕ) → low ≤ t → recalled mem (length x) (j + t) ≡ 0
  nothing t l = q.quiet (j + t) (omega arith) (omega arith)

  pub window_stops : (i : ℕ) → Unlike x y j (length x - 1) low c i c'
      → passed_as (Some i) (length x - 1 - i) c' ≡ passed_of (mem_from x y (recalled mem (length x)) j (length x - 1) (length x - 1)) c
  window_stops i a = sym (ahead_some x y (recalled mem (length x)) j (length x - 1) low c c' nothing i a)

  pub window_goes_on : Alike x y j (length x - 1) low c c' → {w : Gone} → w ≡ passed_of (mem_from x y (recalled mem (length x)) j low low) c'
      → (w ≡ passed_of (mem_from x y (recalled mem (length x)) j (length x - 1) (length x - 1)) c) × Within (length x) w.stop × (w.kept ≤ length x)
  window_goes_on a {w} p =
      let R : ℕ → ℕ = recalled mem (length x) in
      let l : low ≤ length x - 1 = omega (arith, q.under) in (
        p ∙ sym (ahead_all x y R j (length x - 1) low c c' nothing l a),
        subst (λ (w : Gone). Within (length x) w.stop) (sym p) (stop_within (mem_from x y R j low low).end low (length x) (mem_left x y R j low low) (omega arith)),
        omega (arith, ap (λ (w : Gone). w.kept) p, mem_kept x y R j low low),
      )

below_last : (m k i : ℕ) → k ≡ suc i → m - k ≡ m - 1 - i
below_last m k i e = omega arith

-- ONE STEP of the remembering pass, as the code takes it: k = i + 1 bytes are left to look at after c comparisons. The place of index i is p, and r is
-- the length remembered there. Each law gives what is left of the pass.
module _ (x y mem : List ℕ) (j k i c : ℕ) (e : k ≡ suc i) {p : Place} {r : ℕ} (here : Stands (length x) (j + i) p) (told : r ≡ recalled mem (length x) p.at) where
  abbrev R : ℕ → ℕ
  R = recalled mem (length x)

  by_step : {w : Pass} → mem_from x y R j (suc i) (suc i) ≡ w → passed_of w c ≡ passed_of (mem_from x y R j k k) c
  by_step q = rw e (ap (λ (w : Pass). passed_of w c) (sym q))

  length-told : R (j + i) ≡ r
  length-told = sym (told ∙ ap R (place_at here))

  module _ (z : r ≡ 0) {c' : ℕ} (one : c' ≡ c + 1) where
    pub rule_equal : at y p.at ≡ at x i → passed_of (mem_from x y R j i i) c' ≡ passed_of (mem_from x y R j k k) c
    rule_equal q =
        rw one (sym (passed_more (mem_from x y R j i i) c))
        ∙ by_step (step_same x y R j i i (length-told ∙ z) (ap (at y) (sym (place_at here)) ∙ q))

    pub rule_unequal : (at y p.at ≡ at x i → ⊥) → passed_as (Some i) (length x - k) c' ≡ passed_of (mem_from x y R j k k) c
    rule_unequal n =
        let w : length x - k ≡ length x - 1 - i = omega arith in
        (λ t. passed_as (Some i) (w t) (one t))
        ∙ by_step (step_diff x y R j i i (length-told ∙ z) (λ q. n (ap (at y) (place_at here) ∙ q)))

  module _ {s : ℕ} (entry : s ≡ suffix_at x i) where
    pub rule_skips : (r ≡ 0 → ⊥) → r ≤ s → passed_of (mem_from x y R j (k - r) (k - r)) c ≡ passed_of (mem_from x y R j k k) c
    rule_skips n l =
        let q : k - r ≡ suc i - R (j + i) = omega (arith, length-told) in
        rw q
        (ap (λ (w : Pass). passed_of w c) (mem_fuel x y R j (suc i - R (j + i)) i (suc i - R (j + i)) (omega arith) (omega (arith, length-told)))
        ∙ by_step (step_skip x y R j i i (omega (arith, length-told)) (omega (arith, length-told))))

    above : s < r → suffix_at x i < R (j + i)
    above l = omega (arith, length-told)

    not_all : (s ≡ k → ⊥) → suffix_at x i ≡ i + 1 → ⊥
    not_all n q = n (omega arith)

    pub rule_matches : s < r → s ≡ k → passed_as None (length x) c ≡ passed_of (mem_from x y R j k k) c
    rule_matches l q =
        let w : c ≡ c + 0 = omega arith in
        ap (passed_as None (length x)) w ∙ by_step (step_match x y R j i i (above l) (omega arith))

    pub rule_stops : s < r → (s ≡ k → ⊥) → passed_as (Some (i - s)) (length x - k) c ≡ passed_of (mem_from x y R j k k) c
    rule_stops l n =
        let v : i - s ≡ i - suffix_at x i = ap (λ (s : ℕ). i - s) entry in
        let q : length x - k ≡ length x - 1 - i = below_last (length x) k i e in
        (λ t. passed_as (Some (v t)) (q t) (sym (add-zero c) t)) ∙ by_step (step_stop x y R j i i (above l) (not_all n))

-- nothing is left to look at
pub pass_none : (x y : List ℕ) (R : ℕ → ℕ) (j k c : ℕ) → k ≡ 0 → passed_as None (length x) c ≡ passed_of (mem_from x y R j k k) c
unfolding mem_from
pass_none x y R j k c e = let w : c ≡ c + 0 = omega arith in rw e (ap (passed_as None (length x)) w)
