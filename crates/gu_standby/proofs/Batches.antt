-- The batch of an entry of a log.
use Rattle.std.proofs.Common.{◌≡◌, ◌∙◌, ap, List, ℕ}
use Rattle.gu_etcd.specs.Keys.{IsName}
use Rattle.gu_etcd.specs.Log.{entry_of}
use Rattle.gu_etcd.specs.Texts.{batch_of}
use Rattle.gu_etcd.proofs.OwnParts.{batch_is}

-- what follows the line of a desk with a name is the entry's batch
pub batch_of_entry : (entry desk batch : List ℕ) → entry ≡ entry_of desk batch → IsName desk → batch_of entry ≡ batch
batch_of_entry entry desk batch is named = ap batch_of is ∙ batch_is desk batch named
