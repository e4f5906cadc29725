use Rattle.gu_secrets.proofs.IssuedLemmas.{an_issued_secret_admits_its_firm as admits}
use Rattle.gu_secrets.proofs.laws.an_issued_secret_admits_its_firm.Goals as goal

pub returns : goal.returns
returns c = admits
