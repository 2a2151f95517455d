-- Laws of equal lists, of stretches of a list, of tables, and of rows that rise. Assumes nothing.
use Rattle.std.specs.Prelude.{◌≡◌, refl, Bool, true, false, ◌&&◌, List, [], ◌∷◌, ℕ, zero, suc, ◌+◌, ◌-◌, ◌≤◌, ◌<◌, eqb, ltb, length, take, set}
use Rattle.std.proofs.Common.{sym, ap, ◌∙◌, ⊎_elim, true≢false, eq-or-lt_of_le, le_of_suc-le-suc, add-one, arith, eq-eqb, eqb-true, length-append, length-set, ext_get_or, get_or-drop, get_or-take, get_or-set_same, get_or-set_other}
use Rattle.std.proofs.Math.Decide.{ℕ_discrete}
use Rattle.std.proofs.Math.Numerals.{unary_clauses}
use Rattle.std.proofs.Math.ListN.{get_or-append}
use Rattle.std.proofs.Math.Seq.{slice, length-slice}
use Rattle.std.proofs.lemmas.List.{get_or_at}
use Rattle.basics.specs.Lists.{at, same, table, rising}

-- each number is a byte
abbrev pub Bytes : List ℕ → Type 0
Bytes x = (i : ℕ) → at x i < 256

pub same_refl : (x : List ℕ) → same x x ≡ true
unfolding same
same_refl [] = refl
same_refl (a ∷ x) = rw (eq-eqb a a refl) (same_refl x)

pub same_true : (x y : List ℕ) → same x y ≡ true → x ≡ y
unfolding same
same_true [] [] h = refl
same_true [] (b ∷ y) h = absurd (true≢false (sym h))
same_true (a ∷ x) [] h = absurd (true≢false (sym h))
same_true (a ∷ x) (b ∷ y) h = go (eqb a b) refl h (λ u. same_true x y u)
  where
    go : (t : Bool) → eqb a b ≡ t → (t && same x y) ≡ true → (same x y ≡ true → x ≡ y) → a ∷ x ≡ b ∷ y
    go true e h' rest = λ k. eqb-true a b e k ∷ rest h' k
    go false e h' rest = absurd (true≢false (sym h'))

-- TWO STRETCHES of n entries, x[a..e−1] and y[b..f−1], are the same exactly if their entries are
module _ (x y : List ℕ) (a e b f n : ℕ) (ea : e ≡ a + n) (fb : f ≡ b + n) (ex : e ≤ length x) (fy : f ≤ length y) where
  at_x : (t : ℕ) → t < n → at (slice a e x) t ≡ at x (a + t)
  at_x t u = get_or-drop a (take e x) t 0 ∙ get_or-take e x (a + t) 0 (omega arith)

  at_y : (t : ℕ) → t < n → at (slice b f y) t ≡ at y (b + t)
  at_y t u = get_or-drop b (take f y) t 0 ∙ get_or-take f y (b + t) 0 (omega arith)

  lengths : (length (slice a e x) ≡ n) × (length (slice b f y) ≡ n)
  lengths = (omega (arith, length-slice a e x ex), omega (arith, length-slice b f y fy))

  pub slices_agree : same (slice a e x) (slice b f y) ≡ true → (t : ℕ) → t < n → at x (a + t) ≡ at y (b + t)
  slices_agree h t u = sym (at_x t u) ∙ ap (λ (l : List ℕ). at l t) (same_true _ _ h) ∙ at_y t u

  pub slices_same : ((t : ℕ) → t < n → at x (a + t) ≡ at y (b + t)) → same (slice a e x) (slice b f y) ≡ true
  slices_same h =
      let q : slice a e x ≡ slice b f y =
      ext_get_or 0 _ _ (lengths.0 ∙ sym lengths.1) (λ t u. let w : t < n = omega (arith, lengths.0) in at_x t w ∙ h t w ∙ sym (at_y t w)) in
      rw q (same_refl (slice b f y))

-- TABLES
pub length-table : (n : ℕ) (f : ℕ → ℕ) → length (table n f) ≡ n
unfolding table
length-table zero f = refl
length-table (suc n) f = simp (length-append, length-table n f, add-one)

pub at_table : (n : ℕ) (f : ℕ → ℕ) (i : ℕ) → i < n → at (table n f) i ≡ f i
unfolding table
at_table zero f i h = absurd (omega arith)
at_table (suc n) f i h =
    ⊎_elim
    (λ (e : i ≡ n). rw e (get_or_at (table n f) (f n) [] 0 n (length-table n f)))
    (λ (l : i < n). get_or-append (table n f) (f n ∷ []) 0 i (omega (arith, length-table n f)) ∙ at_table n f i l)
    (eq-or-lt_of_le (le_of_suc-le-suc h))

-- a list is the table of its entries
pub table_is : (n : ℕ) (f : ℕ → ℕ) (d : List ℕ) → length d ≡ n → ((i : ℕ) → i < n → at d i ≡ f i) → d ≡ table n f
table_is n f d e h =
    ext_get_or 0 _ _ (e ∙ sym (length-table n f)) (λ i u. let w : i < n = omega arith in h i w ∙ sym (at_table n f i w))

pub table_ext : (n : ℕ) (f g : ℕ → ℕ) → ((i : ℕ) → i < n → f i ≡ g i) → table n f ≡ table n g
table_ext n f g h = table_is n g (table n f) (length-table n f) (λ i u. at_table n f i u ∙ h i u)

-- a table with one entry changed
pub set-table : (n : ℕ) (f g : ℕ → ℕ) (b v : ℕ) → b < n → g b ≡ v → ((i : ℕ) → i < n → (i ≡ b → ⊥) → f i ≡ g i) → set (table n f) b v ≡ table n g
set-table n f g b v h e other =
    table_is n g (set (table n f) b v) (length-set (table n f) b v ∙ length-table n f) (λ i u. entry i u (ℕ_discrete i b))
  where
    entry : (i : ℕ) → i < n → Dec (i ≡ b) → at (set (table n f) b v) i ≡ g i
    entry i w (yes q) = rw q (get_or-set_same (table n f) b v 0 (omega (arith, length-table n f)) ∙ sym e)
    entry i w (no q) = get_or-set_other (table n f) b i v 0 q ∙ at_table n f i w ∙ other i w q

-- ROWS THAT RISE
pub rising_first : (f : ℕ → ℕ) → rising f 0 ≡ true
unfolding rising
rising_first f = refl

pub rising-next : (f : ℕ → ℕ) (k : ℕ) → rising f (suc k) ≡ ltb (f k) (f (suc k))
unfolding rising
rising-next f k = refl

-- the same of a number that is not the first, as the code sees it
pub rising-later : (f : ℕ → ℕ) (k : ℕ) → (k ≡ 0 → ⊥) → rising f k ≡ ltb (f (k - 1)) (f k)
rising-later f zero h = absurd (h refl)
rising-later f (suc k) h = simp unary_clauses (rising-next f k)

-- only the numbers up to f k matter
pub rising_ext : (f g : ℕ → ℕ) (k : ℕ) → ((j : ℕ) → j ≤ k → f j ≡ g j) → rising f k ≡ rising g k
rising_ext f g zero h = rising_first f ∙ sym (rising_first g)
rising_ext f g (suc k) h = rising-next f k ∙ rw (h k (omega arith), h (suc k) (omega arith)) (sym (rising-next g k))
