use Rattle.gu_etcd.proofs.OwnParts.{whole_or_not}
use Rattle.gu_etcd.proofs.log_sink.a_batch_is_found_whole_or_not_at_all.Goals as goal

pub returns : goal.returns
returns c start kept desk batch named fits all log begun = whole_or_not start kept desk batch named fits all log begun
