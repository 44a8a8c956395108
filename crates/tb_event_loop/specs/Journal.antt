-- What the log tells of a message and its answer.
use Rattle.std.specs.Prelude.{◌≡◌, ◌⊎◌, ℕ, ◌+◌, ◌-◌, ◌^◌, List, [], codes, drop, if◌then◌else◌, length, min, nat_le, take, unwrap_or}
use Rattle.std.specs.Option.{option_copied}
use Rattle.tb_event_loop.specs.Logging.{failure_text, log_text}
use Rattle.tb_event_loop.specs.RequestLine.{member_in, method_in, target_in}
use Rattle.tb_event_loop.specs.declared.logging.FailedMessage.{FailedMessage}
use Rattle.tb_event_loop.specs.declared.logging.LogEntry.{LogEntry}

-- the three signs behind the version, where an answer has them
abbrev pub status_in : List ℕ → List ℕ
status_in answer = if nat_le 12 (length answer) then take 3 (drop 9 answer) else codes "-"

-- a line is told, of what the head of a message says and of its answer, and of how many lines are missing before it
pub record IsTold (head answer : List ℕ) (millis missed : ℕ) (tells : List ℕ → Type 0) : Type 0 where
  pub entry : LogEntry
  pub missing : entry.missed ≡ missed
  pub member : option_copied entry.member ≡ member_in head
  pub method : entry.method.now ≡ method_in head
  pub target : entry.target.now ≡ target_in head
  pub status : entry.status.now ≡ status_in answer
  pub bytes : entry.bytes ≡ length answer
  pub duration : entry.millis ≡ millis
  pub told : tells (log_text entry)

-- A line is told whole, or it counts as missing.
abbrev pub IsLogged : List ℕ → List ℕ → ℕ → ℕ → ℕ → (List ℕ → Type 0) → Type 0
IsLogged head answer millis missed later tells =
    (IsTold head answer millis missed tells × (later ≡ 0)) ⊎ (later ≡ min (missed + 1) (2 ^ 64 - 1))

-- a line is told, of what the head of a message says on which the store failed
pub record IsToldFailed (head : List ℕ) (tells : List ℕ → Type 0) : Type 0 where
  pub failed : FailedMessage
  pub member : failed.member.now ≡ unwrap_or (member_in head) []
  pub method : failed.method.now ≡ method_in head
  pub target : failed.target.now ≡ target_in head
  pub told : tells (failure_text failed)
