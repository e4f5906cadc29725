use Rattle.gu_session.proofs.Words.{◌≡◌, ◌++◌, length, refl, ap, ◌∙◌, Buffer, buffer, keep_last, new_of, sent_by, sent_in, seen, extended}
use Rattle.std.specs.List.{filter_map}
use Rattle.gu_session.proofs.KeptLemmas.{committed_sent, committed_sound, kept_in_room}
use Rattle.gu_session.proofs.state.State.commit.Goals as goal

pub returns-clause-behind : goal.returns-clause-behind
returns-clause-behind c =
    let s = seen c.args.self.now in
    let plan = c.args.plan in
    let sent = filter_map sent_in (new_of s c.args.now plan) in
    let kept : c.keep.new.kept ≡ buffer (keep_last 4096 (s.kept ++ sent)) 4096 =
    c.keep.ensures ∙ ap (λ (k : Buffer _). extended k sent) c.move_to.ensures
    ∙ kept_in_room c.args.self.now.at c.args.self.now.kept c.args.ready.room sent c.requires.sound.room c.requires.ready.room in
    let count : c.len.result ≡ length (sent_by s c.args.now plan) = c.len.ensures ∙ committed_sent s c.args.now plan c.args.ready c.requires.ready in
    rw (kept, c.sent_at_after-self.ensures, count, c.len-2.ensures.len, c.settle.ensures) refl

pub returns-clause-sound : goal.returns-clause-sound
returns-clause-sound c =
    let s = seen c.args.self.now in
    let plan = c.args.plan in
    let sent = filter_map sent_in (new_of s c.args.now plan) in
    let kept : c.keep.new.kept ≡ buffer (keep_last 4096 (s.kept ++ sent)) 4096 =
    c.keep.ensures ∙ ap (λ (k : Buffer _). extended k sent) c.move_to.ensures
    ∙ kept_in_room c.args.self.now.at c.args.self.now.kept c.args.ready.room sent c.requires.sound.room c.requires.ready.room in
    rw (kept, c.len-2.ensures.len) (committed_sound c.args.self.now c.args.now plan c.args.ready c.requires.ready c.requires.sound)
