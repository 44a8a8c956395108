-- Which messages wait: those that try a key that hasn't been right with its name, and those of who is in debt.
use Rattle.std.specs.Prelude.{ℕ, ◌+◌, ◌-◌, ◌^◌, ◌==◌, Bool, not, ◌&&◌, ◌||◌, nat_le, nat_lt, if◌then◌else◌, List, codes, Option, Some, None, length, max, min}
use Rattle.std.specs.Str.{bytes_eq}
use Rattle.tb_event_loop.specs.Connection.{asked}
use Rattle.tb_event_loop.specs.Head.{begun, board_in, has_whole_head, is_call_in, makes_board, target_in, text_of}
use Rattle.tb_event_loop.specs.Journal.{status_in}
use Rattle.tb_event_loop.specs.declared.connection.Connection.{Connection}
use Rattle.tb_event_loop.specs.declared.guesses.TheConstants.{BOARD_COST, LONGEST_HOLD}
use Rattle.tb_rooms.specs.Bucket.{charged, wait}
use Rattle.tb_rooms.specs.Claims.{forgotten, is_claimed, number_under, taught}
use Rattle.tb_rooms.specs.Rates.{call_cost, ledger_charged, wait_in}
use Rattle.tb_rooms.specs.declared.bucket.Rate.{Rate}
use Rattle.tb_rooms.specs.declared.rates.Rates.{Rates}

abbrev pub member_in : List ℕ → List ℕ
member_in text = text_of (codes "x-member") text

abbrev pub key_in : List ℕ → List ℕ
key_in text = text_of (codes "x-key") text

-- A message is a guess where it gives a key that isn't known to be right with its name. One to a file of the page is none.
abbrev pub is_guess : (List ℕ → Bool) → Rates → List ℕ → Bool
is_guess files rates text =
    not (files (target_in text))
    && (not (length (key_in text) == 0)
    && not (is_claimed (member_in text) (key_in text) rates.claims.claims))

-- how many turns guesses have at once, and in a second, all of them together
abbrev pub guessers : Rate
guessers = record { burst = 500; per_second = 100 }

-- Rule: guesses have 100 turns a second in all, 500 at once. Tried by rates.sh.
abbrev pub hold_of : (List ℕ → Bool) → Rates → List ℕ → ℕ → ℕ
hold_of files rates text now =
    if is_guess files rates text then wait guessers rates.strangers now else 0

-- a guess is counted, unless more wait than can keep their places
abbrev pub counted : (List ℕ → Bool) → List ℕ → ℕ → Rates → Rates
counted files text now rates =
    if is_guess files rates text && nat_lt (hold_of files rates text now) LONGEST_HOLD
    then record rates { strangers = charged guessers rates.strangers 1 now }
    else rates

-- ---- calls of who is in debt

-- how long a call waits for what its person's calls and its board's sweeps wrote; a view doesn't
-- Rule: a call waits where its person or its board wrote too much; no call is refused for it. Tried by rates.sh.
unfoldable pub debt_of : Rates → List ℕ → ℕ → ℕ
debt_of rates text now =
    if is_call_in text
    then max (wait_in rates.persons (member_in text) now) (wait_in rates.boards (board_in text) now)
    else 0

-- A board counts for more than what it wrote, since there are 10,000 numbers for all.
-- Rule: a new board counts for 1 MiB of what its person may write. Tried by rates.sh.
abbrev pub cost_of : List ℕ → ℕ → ℕ
cost_of text own =
    if nat_lt 0 own && makes_board text then min (own + BOARD_COST) (2 ^ 64 - 1) else own

-- what a call wrote itself is charged to its person, and what its sweep made to its board
unfoldable pub person_charged_with : List ℕ → ℕ → ℕ → ℕ → Rates → Rates
person_charged_with text own swept now rates =
    if own == 0 then rates
    else record rates {
      persons = ledger_charged rates.persons (member_in text) (call_cost own swept) now;
    }

unfoldable pub board_charged_with : List ℕ → ℕ → ℕ → Rates → Rates
board_charged_with text swept now rates =
    if swept == 0 then rates
    else record rates { boards = ledger_charged rates.boards (board_in text) swept now }

abbrev pub charged_with : List ℕ → ℕ → ℕ → ℕ → Rates → Rates
charged_with held own swept now rates =
    board_charged_with (begun held) swept now
    (person_charged_with (begun held) (cost_of (begun held) own) swept now rates)

-- ---- a message is looked at once its head is whole, and a call again when its time has come

-- whose a message is: a person's, where its key is known, or a stranger's
abbrev pub owner_of : Rates → List ℕ → ℕ
owner_of rates text = number_under (member_in text) (key_in text) rates.claims.claims

unfoldable pub wait_of : (List ℕ → Bool) → Rates → List ℕ → ℕ → ℕ
wait_of files rates text now = max (hold_of files rates text now) (debt_of rates text now)

abbrev pub due_of : (List ℕ → Bool) → Rates → List ℕ → ℕ → ℕ
due_of files rates text now = min (now + wait_of files rates text now) (2 ^ 64 - 1)

abbrev pub is_due_again : Rates → List ℕ → ℕ → Connection → Bool
is_due_again rates text now connection =
    nat_le connection.due now && (debt_of rates text now == 0)

abbrev pub put_off_at : Rates → List ℕ → ℕ → Connection → Connection
put_off_at rates text now connection =
    if nat_le connection.due now && not (debt_of rates text now == 0)
    then record connection { due = min (now + debt_of rates text now) (2 ^ 64 - 1) }
    else connection

unfoldable pub looked_at : (List ℕ → Bool) → Rates → List ℕ → ℕ → Connection → Connection
looked_at files rates held now connection =
    if connection.has_asked then put_off_at rates (begun held) now connection
    else if has_whole_head (begun held)
    then asked (due_of files rates (begun held) now) (owner_of rates (begun held)) connection
    else connection

-- one whose head isn't whole may be read on
unfoldable pub is_due : (List ℕ → Bool) → Rates → List ℕ → ℕ → Connection → Bool
is_due files rates held now connection =
    if connection.has_asked then is_due_again rates (begun held) now connection
    else not (has_whole_head (begun held)) || nat_le (due_of files rates (begun held) now) now

abbrev pub is_new : List ℕ → Connection → Bool
is_new held connection = not connection.has_asked && has_whole_head (begun held)

unfoldable pub counted_by : (List ℕ → Bool) → Connection → List ℕ → ℕ → Rates → Rates
counted_by files connection held now rates =
    if is_new held connection then counted files (begun held) now rates else rates

abbrev pub counted_at : (List ℕ → Bool) → Option Connection → List ℕ → ℕ → Rates → Rates
counted_at files None held now rates = rates
counted_at files (Some connection) held now rates = counted_by files connection held now rates

abbrev pub until_one : Option ℕ → ℕ → ℕ → ℕ
until_one None now most = most
until_one (Some due) now most = min most (due - now)

-- ---- what an answer says of a key

-- what was asked for, or a refusal by the boards: these are told only to who gives a right key
abbrev pub is_of_right_key : List ℕ → Bool
is_of_right_key answer =
    bytes_eq (status_in answer) (codes "200") || bytes_eq (status_in answer) (codes "403")
    || bytes_eq (status_in answer) (codes "409")
    || bytes_eq (status_in answer) (codes "422")

abbrev pub with_claim : List ℕ → Rates → Rates
with_claim text rates = record rates {
  claims = taught (member_in text) (key_in text) rates.claims;
}

abbrev pub without_claim : List ℕ → Rates → Rates
without_claim text rates = record rates {
  claims = record rates.claims {
    claims = forgotten (member_in text) (key_in text) rates.claims.claims;
  };
}

-- A guess that was right is known from now on, and a key that is wrong now no more. No other name loses its key.
abbrev pub heeded : (List ℕ → Bool) → List ℕ → List ℕ → Rates → Rates
heeded files held answer rates =
    if bytes_eq (status_in answer) (codes "401") then without_claim (begun held) rates
    else if is_of_right_key answer && is_guess files rates (begun held)
    then with_claim (begun held) rates
    else rates
