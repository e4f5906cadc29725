use Rattle.gu_session.proofs.Words.{◌≡◌, drop, find, FirmId}
use Rattle.gu_session.specs.FrameRules.{is_sender}
use Rattle.gu_session.proofs.logon.find_firm.Given as goal

-- none of the earlier ones is the sender
abbrev pub invariant-loop-firm : goal.invariant-loop-firm
invariant-loop-firm l =
    find (λ (firm : FirmId). is_sender firm l.sender) l.firms ≡ find (λ (firm : FirmId). is_sender firm l.sender) (drop l.firm-index l.firms)
