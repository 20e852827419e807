-- `decode::decode` meets its contract: the stores are cleared behind what the answer keeps.
use Rattle.decode.proofs.Tables.{clearing_leaves}
use Rattle.decode.proofs.decode.Goals as goal

pub returns : goal.returns
returns c =
    let place2 = c.place-2 in
    let place = c.place in
    let kept = c.unwrap_or-kept in
    let checked-table = c.checked_table-answer in
    clearing_leaves _ checked-table.result checked-table.new.nodes checked-table.new.hashes _ _
    checked-table.ensures checked-table.auto.nodes checked-table.auto.hashes kept.result kept.ensures
    place.result place2.result place.ensures.0 place2.ensures.0 _ _
    c.fill_from.ensures c.fill_from-2.ensures
