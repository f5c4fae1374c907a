-- The words for what the system says where it refuses a file (this profile).
use Rattle.std.specs.Prelude.{ℕ, List, codes}
use Rattle.std.specs.declared.io.ErrorKind.{ErrorKind}
use Rattle.std.specs.declared.io.ErrorKind.TheVariants as kinds

unfoldable pub kind_text : ErrorKind → List ℕ
kind_text kinds.NotFound = codes "there is no such file or folder"
kind_text kinds.PermissionDenied = codes "permission is denied"
kind_text kinds.IsADirectory = codes "it is a folder"
kind_text kinds.NotADirectory = codes "a part of its path is no folder"
kind_text kinds.FilesystemLoop = codes "its links lead in a circle"
kind_text kinds.InvalidFilename = codes "its name is too long"
kind_text kinds.ReadOnlyFilesystem = codes "its file system can only be read"
kind_text kinds.StorageFull = codes "the disk is full"
kind_text kinds.QuotaExceeded = codes "the disk has no room left for this user"
kind_text kinds.ResourceBusy = codes "it is in use"
kind_text kinds.ExecutableFileBusy = codes "it is in use"
kind_text _ = codes "the system refuses it"
