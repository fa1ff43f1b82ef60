-- A book in a file may go to another thread: all that the kit's store has may.
use denote.RattleType.{RattleType}
use denote.Param.Send.{IsSend, sendable}
use Rattle.std.proofs.Crossing.{crosses}
use Rattle.sqlite_disk.specs.contracts.modelled.Modelled as Modelled
use Rattle.sqlite_disk.specs.contracts.start.Unknown as Unknown
use Rattle.sqlite_disk.specs.declared.Disk as disk
use Rattle.sqlite_disk.specs.declared.calls.Calls as calls
use Rattle.sqlite_disk.specs.declared.start.Start as start
use Rattle.sqlite_std_file.specs.contracts.host.Host as Host
use Rattle.sqlite_store.specs.contracts.catalog.Wanted as Wanted
use Rattle.sqlite_store.specs.contracts.cursor.Cursor as Cursor
use Rattle.sqlite_store.specs.contracts.saved.Saved as Saved
use Rattle.sqlite_store.specs.contracts.store.FileStore as FileStore
use Rattle.book_store.specs.contracts.tree.TreeStore as TreeStore

tree_send : (S : RattleType) → IsSend S → IsSend (TreeStore.the_row S)
tree_send S s = search (sendable, crosses) depth 40

wanted_send : IsSend Wanted.the_row
wanted_send = search (sendable, crosses) depth 40

saved_send : IsSend Saved.the_row
saved_send = search (sendable, crosses, wanted_send) depth 40

cursor_send : IsSend Cursor.the_row
cursor_send = search (sendable, crosses) depth 40

-- each part in a lemma of its own: at the whole `search` gives up
store_send : (D : RattleType) (g : disk.Ghosts D.Denot) → IsSend D → IsSend (FileStore.the_row D g)
store_send D g d = search (sendable, crosses, wanted_send, saved_send, cursor_send) depth 60 fits 5000

host_send : IsSend Host.the_row
host_send = search (sendable, crosses) depth 40

module _ (c : calls.Ghosts Host.the_row.Denot) (s : start.Ghosts Unknown.the_row.Denot) where
  file_send : IsSend (Modelled.the_row Host.the_row Unknown.the_row c s)
  file_send = search (sendable, crosses, host_send) depth 40

  pub file_book_send : (g : disk.Ghosts (Modelled.the_row Host.the_row Unknown.the_row c s).Denot) → IsSend (TreeStore.the_row (FileStore.the_row (Modelled.the_row Host.the_row Unknown.the_row c s) g))
  file_book_send g = tree_send _ (store_send _ g file_send)
