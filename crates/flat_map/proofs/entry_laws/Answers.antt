use Rattle.flat_map.proofs.Puts.{put_found, put_kept, without_kept, put_undone}
use Rattle.flat_map.proofs.entry_laws.Goals as goal

pub returns : goal.returns
returns g c = record {
  put_found = put_found g.row.V.Denot g.K.PartialEq.eq g.met.K.Key.exact;
  put_kept = put_kept g.row.V.Denot g.K.PartialEq.eq g.met.K.Key.exact;
  without_kept = without_kept g.row.V.Denot g.K.PartialEq.eq g.met.K.Key.exact;
  put_undone = put_undone g.row.V.Denot g.K.PartialEq.eq g.met.K.Key.exact;
}
