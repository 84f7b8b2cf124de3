-- Lists of what a power loss may leave.
use Rattle.std.proofs.Common.{ℕ, zero, suc, List, [], ◌∷◌, ◌++◌, map}
use Rattle.tf_saving.specs.Disk.{Names, Directory, maybe_changed}
use Rattle.tf_saving.specs.Runs.{nth, restored}
use Rattle.tf_saving.specs.Stable.{Each, InAll}

each_append : (P : Names → Type 0) (xs ys : List Names) → Each P xs → Each P ys → Each P (xs ++ ys)
each_append P [] ys h k = k
each_append P (x ∷ xs) ys h k = (h.0, each_append P xs ys h.1 k)

pub each_map : (P Q : Names → Type 0) (change : Names → Names) → ((n : Names) → P n → Q (change n)) → (xs : List Names) → Each P xs → Each Q (map change xs)
each_map P Q change f [] h = tt
each_map P Q change f (x ∷ xs) h = (f x h.0, each_map P Q change f xs h.1)

pub each_weaker : (P Q : Names → Type 0) → ((n : Names) → P n → Q n) → (xs : List Names) → Each P xs → Each Q xs
each_weaker P Q f [] h = tt
each_weaker P Q f (x ∷ xs) h = (f x h.0, each_weaker P Q f xs h.1)

pub always_weaker : (P Q : Names → Type 0) → ((n : Names) → P n → Q n) → (f : Directory) → InAll P f → InAll Q f
always_weaker P Q w f h = (w f.current h.0, each_weaker P Q w f.possible h.1)

pub each_both : (P Q : Names → Type 0) (xs : List Names) → Each P xs → Each Q xs → Each (λ n. P n × Q n) xs
each_both P Q [] h k = tt
each_both P Q (x ∷ xs) h k = ((h.0, k.0), each_both P Q xs h.1 k.1)

pub always_both : (P Q : Names → Type 0) (f : Directory) → InAll P f → InAll Q f → InAll (λ n. P n × Q n) f
always_both P Q f h k = ((h.0, k.0), each_both P Q f.possible h.1 k.1)

-- a change that becomes durable or does not
pub each_or_changed : (P Q : Names → Type 0) (change : Names → Names) → ((n : Names) → P n → Q (change n)) → ((n : Names) → P n → Q n)
    → (xs : List Names) → Each P xs → Each Q (maybe_changed change xs)
each_or_changed P Q change f g xs h = each_append Q (map change xs) xs (each_map P Q change f xs h) (each_weaker P Q g xs h)

picked : (P : Names → Type 0) (xs : List Names) (k : ℕ) (f : Directory) → Each P xs → InAll P f → InAll P (restored (nth xs k) f)
picked P [] k f h a = a
picked P (x ∷ xs) zero f h a = (h.0, (h.0, tt))
picked P (x ∷ xs) (suc k) f h a = picked P xs k f h.1 a

-- what holds in all of them holds after a power loss
pub always_restored : (P : Names → Type 0) (f : Directory) (k : ℕ) → InAll P f → InAll P (restored (nth f.possible k) f)
always_restored P f k a = picked P f.possible k f a.1 a
