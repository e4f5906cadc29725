use Rattle.std.proofs.Common.{Bool, IsTrue, sym, ◌∙◌, subst}
use Rattle.gu_exchange.specs.Endpoints.{IsIpv4Loopback}
use Rattle.gu_exchange.proofs.Numerals.{loopback_read}
use Rattle.gu_exchange.proofs.endpoint.is_ipv4_loopback.Goals as goal

pub returns-then-starts_with : goal.returns-then-starts_with
returns-then-starts_with c =
    let text = c.args.text.now in
    subst (λ (b : Bool). (IsTrue b → IsIpv4Loopback text) × (IsIpv4Loopback text → IsTrue b)) (sym c.is_ok.ensures.value)
    (loopback_read text c.parse_ascii.result (sym c.starts_with.ensures.value ∙ c.if-starts_with.true) c.parse_ascii.ensures)
