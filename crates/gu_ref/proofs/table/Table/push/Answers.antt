use Rattle.gu_ref.proofs.Words.{◌≡◌, ◌++◌, ◌∷◌, [], map, keys_of, values_of}
use Rattle.gu_ref.proofs.Lookups.{pushed}
use Rattle.gu_ref.proofs.table.Table.push.Given.{Over}
use Rattle.gu_ref.proofs.table.Table.push.Goals as goal

-- the rows are stored by name, with one more
kept : (g : Over) (c : goal.In_ok-insert g) → (keys_of c.insert.new.self.entries ≡ map g.R.Named.name (values_of c.insert.new.self.entries))
    × (values_of c.insert.new.self.entries ≡ c.args.self.now ++ c.args.row ∷ [])
kept g c =
    pushed g.R.Name.PartialEq.eq g.met.R.Name.Eq.laws g.R.Named.name c.self.inside.rows c.args.self.now c.args.row _ c.self.view_is c.self.invariant c.requires
    (rw c.name.ensures at c.in_ok-insert.ensures.entries)

pub invariant_of-self-2 : goal.invariant_of-self-2
invariant_of-self-2 g c = (kept g c).0

pub returns : goal.returns
returns g c = (kept g c).1
