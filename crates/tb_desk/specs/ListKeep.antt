-- What a world, the replies kept in the order of their names, and the entries of all boards in the order in which they came stand for.
use Rattle.std.specs.Prelude.{◌≡◌, List, map, string_bytes}
use Rattle.std.specs.FinMap.{empty, from_entries}
use Rattle.std.proofs.Common.{◌∙◌, sym}
use Rattle.tb_board.specs.declared.world.World.{World}
use Rattle.tb_core.specs.GoodWorld.{IsGoodWorld}
use Rattle.tb_calls.specs.declared.call.KeptReply.{KeptReply}
use Rattle.tb_desk.specs.declared.entry_list.BoardEntry.{BoardEntry}
use Rattle.tb_desk.specs.declared.list_keep.KeptUnder.{KeptUnder}
use Rattle.tb_calls.specs.Call.{CallName, State}
use Rattle.tb_desk.specs.EntryList.{with_entries}

-- the name of a call, as its key in the list says it
abbrev pub call_name : KeptUnder → CallName
call_name n = (string_bytes n.member, n.id)

abbrev pub named : KeptUnder × KeptReply → CallName × KeptReply
named e = (call_name e.0, e.1)

-- the state that a world, kept replies and entries stand for
abbrev pub listed : World → List (KeptUnder × KeptReply) → List BoardEntry → State
listed w replies entries =
    record {
      world = w;
      kept = from_entries (map named replies);
      history = with_entries empty entries;
    }

-- they stand for this state, whose world is good
pub record IsListed (w : World) (replies : List (KeptUnder × KeptReply))
    (entries : List BoardEntry) (s : State) : Type 0 where
  pub good : IsGoodWorld s.world
  pub is : s ≡ listed w replies entries

-- they stand for one state alone
pub only : {w : World} {replies : List (KeptUnder × KeptReply)} {entries : List BoardEntry}
    {s t : State} → IsListed w replies entries s → t ≡ listed w replies entries → t ≡ s
only held is = is ∙ sym held.is
