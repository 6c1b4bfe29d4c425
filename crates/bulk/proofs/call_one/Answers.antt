-- `call_one` leaves what `insert` or `remove` leaves, of the bytes of key and value.
-- Assumes nothing.
use Rattle.bulk.specs.BulkLaws.{insert_made, remove_made}
use Rattle.bulk.proofs.call_one.Goals as goal

pub returns-in-Insert : goal.returns-in-Insert
returns-in-Insert c = rw c.in-Insert.is (insert_made _ _ _ c.bytes_of-key.ensures c.bytes_of.ensures c.insert.ensures)

pub returns-in-Remove : goal.returns-in-Remove
returns-in-Remove c = rw c.in-Remove.is (remove_made _ _ c.bytes_of-key.ensures c.remove.ensures)
