-- `directory::Directory::seek` meets its contract: `find` tries the entries one after another, as the definition does.
-- Assumes nothing.
use Rattle.std.proofs.Common.{◌≡◌, ◌≤◌, ◌<◌, Option, Some, None, MatchOption, ℕ, List, refl, sym, ap, inl, inr, arith, rules}
use Rattle.std.proofs.lemmas.Iterator.{first_from_Range}
use Rattle.drawlog.specs.declared.layout.Log.{Log}
use Rattle.drawlog.specs.Log.{count, id_at}
use Rattle.drawlog.specs.Promise.{seek}
use Rattle.drawlog.specs.laws.Log.{Reaches}
use Rattle.drawlog.specs.laws.Promise.{seek_is}
use Rattle.drawlog.proofs.directory.Directory.seek.Goals as goal

-- what a search upward from entry 0 tells of the entries below n, as the definition has it
sought : {s : List ℕ} {t : Log} {m n : ℕ} → Reaches s t m → n ≡ count s → (id : ℕ) (r : Option ℕ)
    → MatchOption r ((k : ℕ) → 0 ≤ k → k < n → id_at s k ≡ id → ⊥)
    (λ i. (0 ≤ i) × (i < n) × (id_at s i ≡ id) × ((k : ℕ) → 0 ≤ k → k < i → id_at s k ≡ id → ⊥))
    → MatchOption r (count s ≤ seek s id) (λ k. (k ≡ seek s id) × (k < count s))
sought {s} {t} h e id None none =
    let counted : t.count ≡ count s = ap (λ (t : Log). t.count) h.says in
    omega (arith, seek_is h id t.count (omega arith) (λ j u. none j (omega arith) (omega arith)) (inl refl))
sought {s} {t} h e id (Some k) found =
    let counted : t.count ≡ count s = ap (λ (t : Log). t.count) h.says in
    (sym (seek_is h id k (omega arith) (λ j u. found.3 j (omega arith) u) (inr found.2)), omega arith)

pub returns : goal.returns
returns c =
    let s : List ℕ = c.args.self.log.now in
    sought c.args.self.reaches c.count.ensures c.args.id c.find.result
    (first_from_Range _ _ _ c.find.result (λ k. id_at s k ≡ c.args.id) (λ k. id_at s k ≡ c.args.id → ⊥) c.find.ensures.ran (λ x q w. search rules) (λ x q w. search rules))
