-- Pairs that stay: nothing done, one thing after another, and what is there when a table is filled. Assumes nothing.
use Rattle.std.specs.Prelude.{◌≡◌, refl, length, List, ℕ}
use Rattle.std.proofs.Common.{sym, ap, ◌∙◌, arith}
use Rattle.basics.specs.Rooms.{Begins}
use Rattle.tables.specs.declared.probe.Probe.{Probe}
use Rattle.tables.specs.declared.room.Pairs.{Pairs}
use Rattle.tables.specs.Suffix.{suffix_table}
use Rattle.tables.specs.Shift.{shift_table}
use Rattle.tables.specs.Both.{firsts}
use Rattle.tables.specs.Inside.{Stays, Firstly, Secondly, every_second}
use Rattle.tables.specs.laws.Suffix.{length-suffix_table}
use Rattle.tables.specs.laws.Shift.{length-shift_table}
use Rattle.tables.specs.laws.Both.{begins_first, begins_second, first_of_each, second_of_each}

pub stays_none : {p : Pairs} → Stays p p
stays_none = record { probe = refl; room = refl }

pub stays_then : {p q r : Pairs} → Stays p q → Stays q r → Stays p r
stays_then u v = record { probe = v.probe ∙ u.probe; room = v.room ∙ u.room }

module _ {p q : Pairs} (s : Stays p q) where
  -- the probe is the same, and as long
  pub stays_bytes : q.x.bytes.now ≡ p.x.bytes.now
  stays_bytes = ap (λ (x : Probe). x.bytes.now) s.probe

  pub stays_long : length q.x.bytes.now ≡ length p.x.bytes.now
  stays_long = ap (λ (x : List ℕ). length x) stays_bytes

  -- the suffix table is there
  pub suffix_begins : Firstly (suffix_table p.x.bytes.now) p.room.now q.room.now → Begins (suffix_table q.x.bytes.now) (firsts q.room.now)
  suffix_begins w = rw stays_bytes (begins_first w (omega (arith, p.reaches, length-suffix_table p.x.bytes.now)))

  pub suffix_taken : Firstly (suffix_table p.x.bytes.now) p.room.now q.room.now → every_second 0 q.room.now (length q.x.bytes.now) ≡ suffix_table p.x.bytes.now
  suffix_taken w =
      first_of_each q.room.now (length q.x.bytes.now) (length-suffix_table q.x.bytes.now) (suffix_begins w) ∙ ap suffix_table stays_bytes

  -- the shift table is there
  pub shift_taken : Secondly (shift_table p.x.bytes.now) p.room.now q.room.now → every_second 1 q.room.now (length q.x.bytes.now) ≡ shift_table p.x.bytes.now
  shift_taken w =
      second_of_each q.room.now (length q.x.bytes.now) (length-shift_table p.x.bytes.now ∙ sym stays_long)
      (begins_second w (omega (arith, p.reaches, length-shift_table p.x.bytes.now)))
