-- A kept reply by its call.
use Rattle.std.specs.Prelude.{◌≡◌, ℕ, List, Option, Some}
use Rattle.std.specs.FinMap.{get}
use Rattle.tb_board.specs.World.{number_of}
use Rattle.tb_calls.specs.declared.call.KeptReply.{KeptReply}
use Rattle.tb_calls.specs.Call.{State}

-- this is kept under the identifier for the person of that number
abbrev pub IsReplyFound : State → ℕ → ℕ → Option KeptReply → Type 0
IsReplyFound s person id kept = (name : List ℕ) → number_of s.world name ≡ Some person
    → kept ≡ get s.kept (name, id)
