-- What the atoms of an initial state say.
use Rattle.std.specs.Prelude.{ℕ, List, map, drop}
use Rattle.hv_world.specs.declared.facts.Fact.{Fact}
use Rattle.hv_world.specs.declared.facts.Facts.{Facts}
use Rattle.hv_world.specs.declared.facts.FactsLeft.{FactsLeft}
use Rattle.hv_world.specs.Values.{Atom, atom, object}

-- the atom of a predicate's number over the objects of these numbers
abbrev pub atom_over : ℕ × List ℕ → Atom
atom_over (p, os) = atom p (map object os)

abbrev pub fact_view : Fact → Atom
fact_view f = atom_over (f.predicate, f.objects.now)

abbrev pub facts_view : Facts → List Atom
facts_view fs = map atom_over fs.facts

-- those that are left
abbrev pub facts_left : FactsLeft → List Atom
facts_left it = drop it.next (facts_view it.facts.now)
