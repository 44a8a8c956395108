-- What a connection hears of its socket.
use Rattle.std.proofs.Common.{◌≡◌, ◌∙◌, ℕ, ◌<◌, ◌≤◌, List, [], ◌∷◌, Option, Some, length, take, refl, sym, ap, arith}
use Rattle.std.specs.Prelude.{slice_set}
use Rattle.std.specs.Option.{option_map}
use Rattle.std.proofs.lemmas.List.{length-take-le}
use Rattle.tb_event_loop.specs.Connection.{with_bytes}
use Rattle.tb_event_loop.specs.Deeds.{Deed, called}
use Rattle.tb_event_loop.specs.Heard.{HearsOf, ReadsAt, WritesAt, heard_by}
use Rattle.tb_event_loop.specs.Places.{SeatsAgain, connection_in}
use Rattle.tb_event_loop.specs.Sockets.{read, wrote}
use Rattle.tb_event_loop.specs.declared.connection.Connection.{Connection}
use Rattle.tb_event_loop.specs.declared.places.Places.{Places}

came_some : (place : ℕ) (bytes : List ℕ) (connection : Connection) → 0 < length bytes
    → heard_by (called (read place bytes)) connection ≡ with_bytes (length bytes) connection
came_some place [] connection some = absurd (omega (arith, some))
came_some place (byte ∷ bytes) connection some = refl

went_some : (place : ℕ) (bytes : List ℕ) (connection : Connection) → 0 < length bytes → heard_by (called (wrote place bytes)) connection ≡ connection
went_some place [] connection some = absurd (omega (arith, some))
went_some place (byte ∷ bytes) connection some = refl

pub hears_bytes : (place count : ℕ) (piece : List ℕ) (old new : Connection) → 0 < count → count ≤ length piece → new ≡ with_bytes count old
    → new ≡ heard_by (called (read place (take count piece))) old
hears_bytes place count piece old new some within is =
    let size = length-take-le count piece within in
    is ∙ ap (λ (n : ℕ). with_bytes n old) (sym size) ∙ sym (came_some place (take count piece) old (omega (arith, size, some)))

pub hears_taken : (place count : ℕ) (bytes : List ℕ) (connection : Connection) → 0 < count → count ≤ length bytes
    → connection ≡ heard_by (called (wrote place (take count bytes))) connection
hears_taken place count bytes connection some within =
    let size = length-take-le count bytes within in sym (went_some place (take count bytes) connection (omega (arith, size, some)))

-- ---- at its place

pub hears_at : (place : ℕ) (before after : Places) (old new : Connection) (deed : Deed) → connection_in before place ≡ Some old → SeatsAgain before place after new
    → new ≡ heard_by deed old → HearsOf place before after deed
hears_at place before after old new deed at is heard =
    is.0 ∙ ap (λ (o : Option Connection). slice_set before.connections.items place o) (ap Some heard ∙ sym (ap (option_map (heard_by deed)) at))

pub reads_still : (place : ℕ) (old between new : Places) (deed : Deed) → new.connections.items ≡ between.connections.items → ReadsAt place old between deed
    → ReadsAt place old new deed
reads_still place old between new deed same is = (is.0, same ∙ is.1)

pub writes_still : (place : ℕ) (old between new : Places) (deed : Deed) → new.connections.items ≡ between.connections.items → WritesAt place old between deed
    → WritesAt place old new deed
writes_still place old between new deed same is = (is.0, same ∙ is.1)
