-- Which message waits, and what a message is charged with.
use Rattle.std.specs.Prelude.{ℕ, ◌+◌, ◌-◌, ◌^◌, ◌==◌, Bool, not, ◌&&◌, List, [], if◌then◌else◌, length, max, min}
use Rattle.tb_rooms.specs.Bucket.{charged, untouched, wait}
use Rattle.tb_rooms.specs.Claims.{is_claimed}
use Rattle.tb_rooms.specs.Ledger.{bucket_in, charged_in}
use Rattle.tb_rooms.specs.declared.bucket.Rate.{Rate}
use Rattle.tb_rooms.specs.declared.ledger.Ledger.{Ledger}
use Rattle.tb_rooms.specs.declared.rates.Asking.{Asking}
use Rattle.tb_rooms.specs.declared.rates.Rates.{Rates}
use Rattle.tb_rooms.specs.declared.rates.TheConstants.{MOST_SWEPT, STRANGERS}

-- nobody used anything, and no key is known
abbrev pub fresh : Rate → Rates
fresh rate = record {
  persons = record { rate = rate; accounts = [] };
  boards = record { rate = rate; accounts = [] };
  strangers = untouched;
  claims = record { claims = []; last = 0 };
}

-- a key that isn't known to be right with its name
abbrev pub is_guess : Rates → Asking → Bool
is_guess rates asking =
    not (length asking.key.now == 0)
    && not (is_claimed asking.member.now asking.key.now rates.claims.claims)

abbrev pub wait_in : Ledger → List ℕ → ℕ → ℕ
wait_in ledger name now = wait ledger.rate (bucket_in name ledger.accounts) now

-- a call waits for what its person and its board used; a view doesn't
abbrev pub debt_wait : Rates → Asking → ℕ → ℕ
debt_wait rates asking now =
    if asking.is_call
    then max (wait_in rates.persons asking.member.now now) (wait_in rates.boards asking.board.now now)
    else 0

-- a message with an unknown key waits for all that have one
abbrev pub guess_wait : Rates → Asking → ℕ → ℕ
guess_wait rates asking now =
    if is_guess rates asking then wait STRANGERS rates.strangers now else 0

abbrev pub ledger_charged : Ledger → List ℕ → ℕ → ℕ → Ledger
ledger_charged ledger name cost now =
    record ledger { accounts = charged_in ledger.rate name cost now ledger.accounts }

-- what a call wrote itself, and some of what its sweep made
unfoldable pub call_cost : ℕ → ℕ → ℕ
call_cost own swept = min (own + min swept MOST_SWEPT) (2 ^ 64 - 1)

-- its caller, for what it wrote itself and some of what its sweep made; a call that wrote nothing is charged to nobody
abbrev pub person_charged : Asking → ℕ → ℕ → ℕ → Rates → Rates
person_charged asking own swept now rates =
    if own == 0 then rates
    else record rates {
      persons = ledger_charged rates.persons asking.member.now (call_cost own swept) now;
    }

-- its board, for all that its sweep made
abbrev pub board_charged : Asking → ℕ → ℕ → Rates → Rates
board_charged asking swept now rates =
    if swept == 0 then rates
    else record rates { boards = ledger_charged rates.boards asking.board.now swept now }

-- a turn of all messages with unknown keys
abbrev pub guess_counted : Asking → ℕ → Rates → Rates
guess_counted asking now rates =
    if is_guess rates asking
    then record rates { strangers = charged STRANGERS rates.strangers 1 now }
    else rates
