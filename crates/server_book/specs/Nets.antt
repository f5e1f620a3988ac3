-- Nets, and which replies of servers are believed.
use Rattle.std.specs.Prelude.{◌≡◌, ℕ, ◌+◌, ◌-◌, ◌/◌, ◌%◌, ◌^◌, ◌<◌, ◌≤◌, ◌==◌, ◌&&◌, ◌||◌, not, nat_le, nat_lt, Bool, List, length}
use Rattle.std.specs.List.{after_first, before_first, list_any}
use Rattle.std.specs.Net.Addr.{ipv4_bits, ipv6_bits}
use Rattle.std.specs.Net.Grammar.{IsIpText, IsNumber}
use Rattle.std.specs.declared.net.ip_addr.IpAddr.{IpAddr}
use Rattle.std.specs.declared.net.ip_addr.IpAddr.TheVariants.{V4, V6}
use Rattle.server_book.specs.declared.address.Address.{Address}
use Rattle.server_book.specs.declared.nets.Net.{Net}
use Rattle.server_book.specs.declared.nets.NetFault.{NetFault}
use Rattle.server_book.specs.declared.nets.NetFault.TheVariants.{NotANet, TooManyBits, HostBits}
use Rattle.server_book.specs.Seats.{same_address}

-- ---- texts

-- `/`
abbrev pub is_slash : ℕ → Bool
is_slash byte = byte == 47

-- how many bits an address has
abbrev pub width_of : IpAddr → ℕ
width_of (V4 ip) = 32
width_of (V6 ip) = 128

-- its number: of IPv4 that of the address ::ffff:a.b.c.d
abbrev pub host_number : IpAddr → ℕ
host_number (V4 ip) = 0xffff_0000_0000 + ipv4_bits ip
host_number (V6 ip) = ipv6_bits ip

-- decimal digits write a number of 32 bits
abbrev pub IsBits : List ℕ → ℕ → Type 0
IsBits digits bits = IsNumber 10 digits bits × (bits < 2 ^ 32)

-- an address, the first `/`, and a number
abbrev pub IsSpelled : List ℕ → IpAddr → ℕ → Type 0
IsSpelled text ip bits = IsIpText (before_first is_slash text) ip × IsBits (after_first is_slash text) bits

-- the net of the hosts that agree with an address in so many bits, of which the address is the first
pub record IsNetOf (ip : IpAddr) (bits : ℕ) (net : Net) : Type 0 where
  pub within : bits ≤ width_of ip
  pub first : net.first ≡ host_number ip
  pub free : net.free ≡ width_of ip - bits
  pub whole : host_number ip % 2 ^ (width_of ip - bits) ≡ 0

abbrev pub IsFaultOf : IpAddr → ℕ → NetFault → Type 0
IsFaultOf ip bits NotANet = ⊥
IsFaultOf ip bits TooManyBits = width_of ip < bits
IsFaultOf ip bits HostBits = (bits ≤ width_of ip) × ¬ (host_number ip % 2 ^ (width_of ip - bits) ≡ 0)

-- the text writes this net
abbrev pub IsNet : List ℕ → Net → Type 0
IsNet text net = (ip : IpAddr) × ((bits : ℕ) × (IsSpelled text ip bits × IsNetOf ip bits net))

-- why it writes none
abbrev pub IsFault : List ℕ → NetFault → Type 0
IsFault text NotANet = (ip : IpAddr) (bits : ℕ) → ¬ (IsSpelled text ip bits)
IsFault text TooManyBits = (ip : IpAddr) × ((bits : ℕ) × (IsSpelled text ip bits × IsFaultOf ip bits TooManyBits))
IsFault text HostBits = (ip : IpAddr) × ((bits : ℕ) × (IsSpelled text ip bits × IsFaultOf ip bits HostBits))

-- ---- hosts

-- the host's number is that of the first one but for the free bits
abbrev pub is_in : ℕ → Net → Bool
is_in host net = host / 2 ^ net.free == net.first / 2 ^ net.free

-- in one of the nets; with none given each host is
abbrev pub is_in_one : ℕ → List Net → Bool
is_in_one host nets = (length nets == 0) || list_any (is_in host) nets

-- 224.0.0.0/4 and ff00::/8
abbrev pub is_multicast : ℕ → Bool
is_multicast host = (nat_le 0xffff_e000_0000 host && nat_lt host 0xffff_f000_0000) || nat_le 0xff00_0000_0000_0000_0000_0000_0000_0000 host

-- neither ::, 0.0.0.0, 255.255.255.255 nor multicast, as the address of ones alone is
abbrev pub is_one_host : ℕ → Bool
is_one_host host = not (host == 0) && not (host == 0xffff_0000_0000) && not (host == 0xffff_ffff_ffff) && not (is_multicast host)

-- a reply is believed whose source and whose server's address are in one of the nets, if it is one host's, has a port, and isn't
-- where the gateway itself listens
abbrev pub is_believed : ℕ → Address → List Net → Address → Bool
is_believed source address nets own =
    is_in_one source nets && is_in_one address.host nets && is_one_host address.host && not (address.port == 0) && not (same_address address own)
