use Rattle.gu_etcd.proofs.Entries.{one_desk}
use Rattle.gu_etcd.proofs.entry.an_entry_is_of_one_desk.Goals as goal

pub returns : goal.returns
returns c a b x y named_a named_b same = one_desk a b x y named_a named_b same
