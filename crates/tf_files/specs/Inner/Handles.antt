-- The names under which the system shows the open files of a process.
use Rattle.std.specs.Prelude.{ℕ, List, ◌++◌, codes}
use Rattle.std.specs.Fmt.{decimal}

-- `/proc/self/fd/` and the number: proc_pid_fd(5)
abbrev pub handle_path : ℕ → List ℕ
handle_path number = codes "/proc/self/fd/" ++ decimal number
