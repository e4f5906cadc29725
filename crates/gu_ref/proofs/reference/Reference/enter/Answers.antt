use Rattle.gu_ref.proofs.Words.{same_symbol, is_ok}
use Rattle.gu_ref.proofs.Growing.{firm-pushed, group-pushed, instrument-pushed, account-pushed, agreement-pushed, guarantor-pushed, no_instrument}
use Rattle.gu_ref.proofs.reference.Reference.enter.Goals as goal

pub invariant_of-self : goal.invariant_of-self
invariant_of-self c =
    let p = rw (← c.self.view_is, c.in-Firm.is) at c.requires in
    firm-pushed _ c.in-Firm.firm (is_ok c.push.result) _ c.self.invariant p c.push.ensures

pub invariant_of-self-in-Group : goal.invariant_of-self-in-Group
invariant_of-self-in-Group c =
    let p = rw (← c.self.view_is, c.in-Group.is) at c.requires in
    group-pushed _ c.in-Group.group (is_ok c.push-in-Group.result) _ c.self.invariant p c.push-in-Group.ensures

pub invariant_of-self-in-Instrument : goal.invariant_of-self-in-Instrument
invariant_of-self-in-Instrument c =
    let p = rw (← c.self.view_is, c.in-Instrument.is) at c.requires in
    instrument-pushed _ c.in-Instrument.instrument (is_ok c.push-in-Instrument.result) _ c.self.invariant p c.push-in-Instrument.ensures

pub push-requires-in-Instrument : goal.push-requires-in-Instrument
push-requires-in-Instrument c =
    let p = rw (← c.self.view_is, c.in-Instrument.is) at c.requires in
    no_instrument (λ i. same_symbol i.symbol c.in-Instrument.instrument.symbol) c.self.inside.instruments p.new

pub invariant_of-self-in-Account : goal.invariant_of-self-in-Account
invariant_of-self-in-Account c =
    let p = rw (← c.self.view_is, c.in-Account.is) at c.requires in
    account-pushed _ c.in-Account.account (is_ok c.push-in-Account.result) _ c.self.invariant p c.push-in-Account.ensures

pub invariant_of-self-in-Agreement : goal.invariant_of-self-in-Agreement
invariant_of-self-in-Agreement c =
    let p = rw (← c.self.view_is, c.in-Agreement.is) at c.requires in
    agreement-pushed _ c.in-Agreement.agreement (is_ok c.push-in-Agreement.result) _ c.self.invariant p c.push-in-Agreement.ensures

pub invariant_of-self-in-Guarantor : goal.invariant_of-self-in-Guarantor
invariant_of-self-in-Guarantor c =
    let p = rw (← c.self.view_is, c.in-Guarantor.is) at c.requires in
    guarantor-pushed _ c.in-Guarantor.guarantor (is_ok c.push-in-Guarantor.result) _ c.self.invariant p c.push-in-Guarantor.ensures
