-- Laws of what messages ask for.
use Rattle.std.specs.Prelude.{◌≡◌, ℕ, true, Ok}
use Rattle.tb_todotxt.specs.Line.{is_free_of}
use Rattle.tb_core.specs.GoodLaws.{own_keys}
use Rattle.tb_calls.specs.declared.call.Call.{Call}
use Rattle.tb_http.specs.declared.message.Message.{Message}
use Rattle.tb_asking.specs.declared.asked.Asked.TheVariants as asked
use Rattle.tb_asking.specs.Asking.{asked_of}

-- Calls of one content change the same own key, or none, whenever their messages come. No target has a line feed.
abbrev pub OneChangeOfKey : Type 0
OneChangeOfKey =
    (message other : Message) (at later : ℕ) (call again : Call)
    → is_free_of 10 message.target ≡ true → is_free_of 10 other.target ≡ true
    → asked_of message at ≡ Ok (asked.Call call) → asked_of other later ≡ Ok (asked.Call again)
    → again.content ≡ call.content → own_keys again.command ≡ own_keys call.command
