-- The causes of the whole log, by their cases, and its mark as the code compares it, for `refusal::framed` and `refusal::marked`. Assumes nothing.
use Rattle.std.proofs.Common.{◌≡◌, true, false, List, ℕ, ◌+◌, ◌-◌, ◌*◌, ◌≤◌, ◌<◌, eqb, ne_eqb, lt-ltb, le-ltb, le-leb, length, drop, refl, sym, ap, ◌∙◌, arith}
use Rattle.std.specs.Bool.{Decides}
use Rattle.std.specs.List.{ends_with}
use Rattle.std.proofs.lemmas.Slice.Eq.{slice_eq-Decides}
use Rattle.std.proofs.lemmas.Bool.Decides.{Decides-eqb}
use borrow.Author.Tests.{lt-leb}
use Rattle.basics.specs.laws.Tests.{same_test}
use Rattle.drawlog.specs.Log.{trailer_size, longest, most, entry_size, mark, trailer, directory, count, marked}
use Rattle.drawlog.specs.Refusal.{log_cause}
use Rattle.drawlog.specs.laws.Log.{is_marked, marked_is}
use Rattle.drawlog.specs.laws.Refusal.{framed_none}

module _ (s : List ℕ) where
  pub too_short : length s < trailer_size → log_cause s ≡ 10
  unfolding log_cause
  too_short h = rw (lt-ltb _ _ h)

  module _ (long : trailer_size ≤ length s) where
    pub too_long : longest < length s → log_cause s ≡ 11
    unfolding log_cause
    too_long h = rw (le-ltb _ _ long, lt-ltb _ _ h)

    module _ (short : length s ≤ longest) where
      pub no_mark : marked s ≡ false → log_cause s ≡ 12
      unfolding log_cause
      no_mark h = rw (le-ltb _ _ long, le-ltb _ _ short, h)

      module _ (signed : marked s ≡ true) where
        pub too_few : count s < 1 → log_cause s ≡ 13
        unfolding log_cause
        too_few h = rw (le-ltb _ _ long, le-ltb _ _ short, signed, lt-leb _ _ h)

        module _ (some : 1 ≤ count s) where
          pub too_many : most < count s → log_cause s ≡ 13
          unfolding log_cause
          too_many h = rw (le-ltb _ _ long, le-ltb _ _ short, signed, le-leb _ _ some, lt-leb _ _ h)

          module _ (few : count s ≤ most) where
            pub bad_size : (directory s + entry_size * count s + trailer_size ≡ length s → ⊥) → log_cause s ≡ 14
            unfolding log_cause
            bad_size h = rw (le-ltb _ _ long, le-ltb _ _ short, signed, le-leb _ _ some, le-leb _ _ few, ne_eqb _ _ h)

            pub no_cause : directory s + entry_size * count s + trailer_size ≡ length s → log_cause s ≡ 0
            no_cause h = framed_none s (record { long = long; short = short; signed = signed; some = some; few = few; size = h })

-- THE MARK: the last four bytes are compared with it
pub ends_in_mark : (s : List ℕ) → trailer_size ≤ length s → marked s ≡ ends_with eqb s mark
ends_in_mark s long =
    let stands : drop (length s - 4) s ≡ drop (trailer s + 8) s = ap (λ n. drop n s) (omega arith) in
    let told : Decides (ends_with eqb s mark) (mark ≡ drop (length s - 4) s) = slice_eq-Decides Decides-eqb _ _ _ refl in
    same_test _ _ (λ h. told.1 (sym (stands ∙ marked_is s h))) (λ h. is_marked s (sym (told.0 h ∙ stands)))

pub ruleset whole = (too_short, too_long, no_mark, too_few, too_many, bad_size, no_cause)
