-- A good world is read back from its rows.
use Rattle.std.proofs.Common.{◌≡◌, [], Ok, refl}
use Rattle.tb_task.specs.TaskId.{IsRead}
use Rattle.tb_board.specs.declared.world.World.{World}
use Rattle.tb_core.specs.GoodWorld.{IsGoodWorld}
use Rattle.tb_rows.specs.Rows.{world_rows}
use Rattle.tb_rows.specs.Forms.{HasForm}
use Rattle.tb_rows.specs.Reading.{world_in}
use Rattle.tb_rows.proofs.Joined.{numbered_from}
use Rattle.tb_rows.proofs.ReadBoards.{boards_read, finds_own}
use Rattle.tb_rows.proofs.ReadPeople.{people_read, roles_read}

pub reads_back : IsRead → (w : World) → IsGoodWorld w → HasForm w → world_in (world_rows w) ≡ Ok w
reads_back law w good form =
    let own = finds_own 1 w.boards (numbered_from 1 w.boards good.numbered) in
    rw (people_read [] w.people 1 refl form.people, boards_read law _ _ _ [] w.boards own good.good form.boards, roles_read [] w.roles) refl
