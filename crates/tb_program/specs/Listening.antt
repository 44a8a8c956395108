-- The address that is listened on.
use Rattle.std.specs.Prelude.{ℕ, List, Option, Some, None}
use Rattle.std.specs.Net.Addr.{ipv4_octets}
use Rattle.std.specs.Net.Socket.{v4_ip}
use Rattle.std.specs.declared.net.socket_addr.SocketAddr.{SocketAddr}
use Rattle.std.specs.declared.net.socket_addr.SocketAddr.TheVariants.{V4, V6}

-- the four octets, where it has so many
abbrev pub ipv4_octets_of : SocketAddr → Option (List ℕ)
ipv4_octets_of (V4 address) = Some (ipv4_octets (v4_ip address))
ipv4_octets_of (V6 address) = None
