-- Why no boards are made over what a connection found.
use Rattle.std.proofs.Common.{◌≡◌}
use Rattle.sqlite.specs.Files.{file_state, over_files}
use Rattle.sqlite.specs.Held.{Held}
use Rattle.sqlite_disk.specs.declared.Disk.{Ghosts as DiskGhosts}
use Rattle.sqlite_store.specs.declared.store.FileStore.{FileStore}
use Rattle.tb_calls.specs.Call.{State}
use Rattle.tb_keeper.specs.declared.creating.CreateFault.{CreateFault}
use Rattle.tb_keeper.specs.declared.creating.CreateFault.TheVariants as making
use Rattle.tb_files.specs.Init.{IsUnmadeFor}
use Rattle.tb_headline.specs.Refusals.{IsFilled, IsUnmade}
use Rattle.tb_files.specs.Faults.{fault_of_making}

store_filled : making.Store ≡ making.NotEmpty → ⊥
store_filled is = absurd (cc)

memory_filled : making.Memory ≡ making.NotEmpty → ⊥
memory_filled is = absurd (cc)

-- where tables were found, no other fault is told
pub by_making : {D : Type 0} {d : DiskGhosts D} (s : State) (found left : Held (FileStore D d)) (fault : CreateFault)
    → (IsFilled (file_state found) → (left ≡ found) × (fault ≡ making.NotEmpty))
    → IsUnmade over_files s found left fault → IsUnmadeFor found s left (fault_of_making fault)
by_making s found left making.NotEmpty filled unmade = unmade
by_making s found left making.Store filled unmade = (λ is. store_filled (filled is).1, unmade)
by_making s found left making.Memory filled unmade = (λ is. memory_filled (filled is).1, unmade)
