-- What a session does as time passes (FIXT 1.1, Heartbeat, TestRequest and Logout).
use Rattle.std.specs.Prelude.{ℕ, ◌*◌, ◌-◌, ◌==◌, ◌&&◌, Bool, true, not, nat_le, [], ◌∷◌, None, Some, if◌then◌else◌}
use Rattle.gu_msgs.specs.declared.coded_values.LogoutReason.TheVariants.{Silent}
use Rattle.gu_msgs.specs.declared.outbound.Body.TheVariants as body
use Rattle.gu_session.specs.Plans.{leaves, says}
use Rattle.gu_session.specs.declared.plan.Course.{Course}
use Rattle.gu_session.specs.declared.plan.Course.TheVariants.{Stay, Go}
use Rattle.gu_session.specs.declared.logged_on.LoggedOn.{LoggedOn}

-- at least this many heartbeat intervals have passed between two moments in milliseconds; a clock that goes back counts as no time
abbrev pub have_passed : ℕ → LoggedOn → ℕ → ℕ → Bool
have_passed count at from now = nat_le (count * (1000 * at.heart_bt_int)) (now - from)

-- after three intervals of silence the session ends; after two a TestRequest is sent once; after one in which nothing was sent, a Heartbeat
abbrev pub on_tick : LoggedOn → ℕ → ℕ → Course
on_tick at sent_at now =
    if at.heart_bt_int == 0 then Stay
    else (if have_passed 3 at at.heard_at now then Go (leaves at (body.Logout (Some Silent) ∷ []))
    else (if have_passed 2 at at.heard_at now && not at.is_tested then Go (says (record at { is_tested = true }) (body.TestRequest ∷ []))
    else (if have_passed 1 at sent_at now then Go (says at (body.Heartbeat None ∷ [])) else Stay)))
