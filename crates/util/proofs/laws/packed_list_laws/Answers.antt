use Rattle.util.proofs.Packs.{unpack_packed, pack_unpacked}
use Rattle.util.proofs.laws.packed_list_laws.Goals as goal

pub returns : goal.returns
returns c = record { packed = unpack_packed; unpacked = pack_unpacked }
