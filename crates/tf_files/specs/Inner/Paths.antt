-- The folders in which the paths of a file begin.
use Rattle.std.specs.Prelude.{Option, Some, None}
use Rattle.tf_files.specs.declared.file_paths.FilePaths.{FilePaths}
use Rattle.tf_files.specs.declared.file_paths.Place.{Place}
use Rattle.tf_files.specs.declared.folder.Folder.{Folder}

-- of what a link leads to, if it is one, else of the file itself
abbrev pub folder_of : Option Place → Place → Folder
folder_of (Some target) given = target.folder
folder_of None given = given.folder

abbrev pub text_folder : FilePaths → Folder
text_folder paths = folder_of paths.places.text paths.places.given

abbrev pub journal_folder : FilePaths → Folder
journal_folder paths = folder_of paths.places.journal paths.places.given
