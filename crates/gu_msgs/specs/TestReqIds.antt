-- TestReqID, tag 112 (FIXT 1.1, TestRequest and Heartbeat).
use Rattle.std.specs.Prelude.{◌≡◌, ◌≤◌, ℕ, false, List, length}
use Rattle.gu_fix.specs.Encoding.{has_soh}

-- the id of a TestRequest: 1 to 1,024 bytes, none of them SOH
pub record IsTestReqId (bytes : List ℕ) : Type 0 where
  pub some : 1 ≤ length bytes
  pub most : length bytes ≤ 1024
  pub clean : has_soh bytes ≡ false
