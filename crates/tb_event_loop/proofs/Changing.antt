-- Places of which only connections were changed.
use Rattle.std.proofs.Common.{◌≡◌, ap, ◌∙◌}
use Rattle.tb_event_loop.specs.declared.places.Places.{Places}

-- one change behind another
pub changed_then : (old between new : Places) → between ≡ record old { connections = between.connections } → new ≡ record between { connections = new.connections }
    → new ≡ record old { connections = new.connections }
changed_then old between new first more = more ∙ ap (λ (places : Places). record places { connections = new.connections }) first
