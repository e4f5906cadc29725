use Rattle.gu_session.proofs.Words.{outbound_of}
use Rattle.gu_session.proofs.KeptLemmas.{sent_alone, sent_sound}
use Rattle.std.specs.Prelude.{refl}
use Rattle.gu_session.proofs.state.State.note_sent.Goals as goal

pub returns-clause-behind : goal.returns-clause-behind
returns-clause-behind c =
    sent_alone c.args.self.now c.args.self.now.at (outbound_of c.args.message.now) c.args.answered c.keep.new.self c.forget.new.waiting.items refl c.requires.sound.room c.requires.firm
    c.requires.number c.requires.first c.requires.is_open c.keep.ensures c.forget.ensures

pub returns-clause-sound : goal.returns-clause-sound
returns-clause-sound c =
    sent_sound c.args.self.now.at c.args.self.now.next c.args.self.now.kept c.keep.new.self (outbound_of c.args.message.now) c.requires.sound c.requires.firm c.requires.number
    c.requires.first c.requires.most c.keep.ensures
