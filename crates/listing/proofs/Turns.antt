-- Owner after owner. Assumes nothing.
use Rattle.std.specs.Prelude.{◌≡◌, List, ◌++◌, ℕ, ◌+◌}
use Rattle.std.proofs.Math.Numerals.{add-one}
use Rattle.listing.specs.Listing.{owner_text, owners_text}

module _ (s : List ℕ) where
  pub owners_next : (a : ℕ) → owners_text s a ++ owner_text s a ≡ owners_text s (a + 1)
  unfolding owners_text
  owners_next a = rw add-one
