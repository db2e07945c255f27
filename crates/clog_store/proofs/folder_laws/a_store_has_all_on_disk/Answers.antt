use Rattle.std.proofs.Common.{refl}
use Rattle.clog_segments.specs.StoreFolder.{deeds_of}
use Rattle.clog_segments.proofs.FolderReads.{all_on_disk}
use Rattle.clog_store.proofs.folder_laws.a_store_has_all_on_disk.Goals as goal

pub returns : goal.returns
returns g c first f s h holds sound is has =
    all_on_disk first f s (deeds_of h) holds sound.below sound.stored.fits sound.past_stored
    sound.stored is h has refl
