use Rattle.std.proofs.Common.{◌≡◌, is_none, rules, string_bytes}
use Rattle.gu_server.specs.DayEnds.{day_text}
use Rattle.gu_server.proofs.closing.end_of.Goals as goal

pub returns : goal.returns
returns c =
    let found = c.in_ok-found.found in
    let text : string_bytes c.in_ok-text.text ≡ day_text c.args.book.now.history found = search rules in
    let none : c.is_none.result ≡ is_none found = search rules in
    (found, c.in_ok-found.ensures, text, none)
