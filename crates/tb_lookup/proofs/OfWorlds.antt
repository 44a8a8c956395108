-- What is told of a world that was read.
use Rattle.sqlite.specs.State.{HasCleanDisk, State as Database}
use Rattle.tb_board.specs.declared.world.World.{World}
use Rattle.tb_rows.specs.Laws.{IsWorldRead}
use Rattle.tb_sql_tables.specs.Content.{Content, Stands}

-- this holds of each world that is read in the content that stands
abbrev pub OfWorld : Database → Database → (World → Type 0) → Type 0
OfWorld old new P = HasCleanDisk new → (w : World) (content : Content) → IsWorldRead w content → Stands content old → P w
