use Rattle.std.proofs.Common.{length, arith}
use Rattle.sink.proofs.Fits.{fits}
use Rattle.sink.proofs.byte_area.ByteAreaSink.put.Goals as goal

pub add-requires : goal.add-requires
add-requires c = omega (arith, fits (length c.args.bytes.now) c.bytes_left.result (omega arith) c.in_ok-within.ensures)
