-- The windows that are done and those that are to come: what both loops keep. Assumes nothing.
use Rattle.std.specs.Prelude.{◌≡◌, refl, List, [], ◌∷◌, ◌++◌, ℕ, ◌+◌, length}
use Rattle.std.proofs.Common.{sym, ap, ◌∙◌, append_assoc, append-nil, arith, length-append}
use Rattle.scans.specs.Trace.{End, matched, stopped, Pass, equal_by, Window, window, comparisons, found, positions}
use Rattle.scans.specs.Occurrences.{multiples}
use Rattle.scans.specs.Closeness.{closest, first_telling}
use Rattle.scans.specs.Promise.{reported}
use Rattle.scans.specs.declared.closeness.Closest.{Closest}
use Rattle.scans.specs.inside.Hits.{places_of, run_of}
use Rattle.scans.specs.inside.Closest.{closest_of, closer_by}
use Rattle.scans.specs.laws.Closeness.{first_start, closest_then}
use Rattle.scans.specs.laws.Hits.{Noted}

-- a trace with one window more
length_more : (ws : List Window) (w : Window) → length (ws ++ (w ∷ [])) ≡ length ws + 1
length_more ws w = length-append ws (w ∷ [])

comparisons-more : (ws : List Window) (w : Window) → comparisons (ws ++ (w ∷ [])) ≡ comparisons ws + w.comps
unfolding comparisons
comparisons-more [] w = omega arith
comparisons-more (v ∷ ws) w = omega (arith, comparisons-more ws w)

found-more : (j : ℕ) (e : End) (l k : List ℕ) → found j e l ++ k ≡ found j e (l ++ k)
found-more j matched l k = refl
found-more j (stopped i) l k = refl

positions-more : (ws : List Window) (w : Window) → positions (ws ++ (w ∷ [])) ≡ positions ws ++ found w.start w.end []
unfolding positions
positions-more [] w = refl
positions-more (v ∷ ws) w = ap (found v.start v.end) (positions-more ws w) ∙ sym (found-more v.start v.end (positions ws) (found w.start w.end []))

start_more : (ws : List Window) (w : Window) (later : List Window) → first_start (ws ++ (w ∷ [])) ≡ first_start (ws ++ (w ∷ later))
start_more [] w later = refl
start_more (v ∷ ws) w later = refl

-- Of the windows of a whole trace those that are to come are `rest`: ps are the positions of those done, w their number, c their comparisons and b the closest
-- of them. The first window of the whole starts at 0
pub record Going (whole rest : List Window) (ps : List ℕ) (w c : ℕ) (b : Closest) : Type 0 where
  pub done : List Window
  pub split : done ++ rest ≡ whole
  pub start : first_start whole ≡ 0
  pub positions : ps ≡ positions done
  pub windows : w ≡ length done
  pub count : c ≡ comparisons done
  pub closest : b ≡ closest_of done

-- nothing is done
abbrev pub none : Closest
none = record { equal = 0; at = 0 }

pub going_none : (whole : List Window) → first_start whole ≡ 0 → Going whole whole [] 0 0 none
unfolding positions comparisons closest first_telling
going_none whole z = record { done = []; split = refl; start = z; positions = refl; windows = refl; count = refl; closest = refl }

-- the next window is done
pub going_more : {whole rest rest' : List Window} {ps : List ℕ} {w c c' : ℕ} {b b' : Closest} (m j : ℕ) (p : Pass) → Going whole rest ps w c b
    → rest ≡ window m j p ∷ rest' → c' ≡ c + p.comps → b' ≡ closer_by b (equal_by m p.end) j → Going whole rest' (ps ++ found j p.end []) (w + 1) c' b'
going_more {whole} {rest} {rest'} {ps} {w} {c} {c'} {b} {b'} m j p g e k n =
    let v : Window = window m j p in
    let s : g.done ++ (v ∷ rest') ≡ whole = ap (λ (l : List Window). g.done ++ l) (sym e) ∙ g.split in
    let z : first_start (g.done ++ (v ∷ [])) ≡ 0 = start_more g.done v rest' ∙ ap first_start s ∙ g.start in
    record {
      done = g.done ++ (v ∷ []);
      split = append_assoc g.done (v ∷ []) rest' ∙ s;
      start = g.start;
      positions = ap (λ (l : List ℕ). l ++ found j p.end []) g.positions ∙ sym (positions-more g.done v);
      windows = omega (arith, g.windows, length_more g.done v);
      count = omega (arith, g.count, comparisons-more g.done v);
      closest = n ∙ ap (λ (b : Closest). closer_by b v.equal j) g.closest ∙ sym (closest_then g.done v z);
    }

-- all windows are done
module _ {whole rest : List Window} {ps : List ℕ} {w c : ℕ} {b : Closest} (g : Going whole rest ps w c b) (e : rest ≡ []) where
  all_done : g.done ≡ whole
  all_done = sym (append-nil g.done) ∙ ap (λ (l : List Window). g.done ++ l) (sym e) ∙ g.split

  going_places : ps ≡ positions whole
  going_places = g.positions ∙ ap positions all_done

  pub going_run : {step : ℕ} {d₀ d : List ℕ} {h : ℕ} → Noted step ps d₀ d h → record { hits = h; windows = w; comparisons = c; closest = b } ≡ run_of step whole
  going_run {step} {d₀} {d} {h} n =
      let hits : h ≡ length (places_of step whole) = n.hits ∙ ap (λ (l : List ℕ). length (multiples step l)) going_places in
      let windows : w ≡ length whole = g.windows ∙ ap length all_done in
      let count : c ≡ comparisons whole = g.count ∙ ap comparisons all_done in
      let closest : b ≡ closest_of whole = g.closest ∙ ap closest_of all_done in
      λ k. record { hits = hits k; windows = windows k; comparisons = count k; closest = closest k }

  pub going_room : {step : ℕ} {d₀ d : List ℕ} {h : ℕ} → Noted step ps d₀ d h → d ≡ reported (places_of step whole) d₀
  going_room {step} {d₀} n = n.room ∙ ap (λ (l : List ℕ). reported (multiples step l) d₀) going_places
