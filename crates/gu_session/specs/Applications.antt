-- Application messages, which don't serve the session itself (FIXT 1.1, Session Protocol).
use Rattle.std.specs.Prelude.{Option, None, Some}
use Rattle.gu_msgs.specs.declared.outbound.Application.{Application}
use Rattle.gu_msgs.specs.declared.outbound.Body.{Body}
use Rattle.gu_msgs.specs.declared.outbound.Body.TheVariants as body

-- the application message in a message; none if it serves the session
abbrev pub application_of : Body → Option Application
application_of (body.Application message) = Some message
application_of _ = None
