-- Two lists of edits one after another, and how what is left of both transforms texts.
use Rattle.std.proofs.Common.{◌≡◌, ℕ, ◌+◌, ◌-◌, ◌≤◌, List, [], ◌∷◌, ◌++◌, length, take, drop, refl, arith, sym, ap, ◌∙◌, append_assoc}
use Rattle.std.proofs.lemmas.List.{append_cancel_left, take-append-drop, length-take-le}
use Rattle.edit_record.specs.declared.lists.direction.Direction.TheVariants.{Forward}
use Rattle.edit_record.specs.Lists.Pieces.{EditEntry}
use Rattle.edit_record.specs.Lists.Validity.{AreDisjoint}
use Rattle.edit_record.specs.Lists.Inner.Walks.{Walks}
use Rattle.edit_record.proofs.ListsLemmas.Parts.{equal_prefixes, Ends, pass, pass_back, pass_new, long, end_of}

-- t goes to v by what is left of both lists, over a text between; the first list added bytes that the second has not
-- reached, or the second removed bytes that the first has not reached
pub record Both (la lb : ℕ) (pa : List ℕ) (af : ℕ) (xs : List EditEntry) (pb : List ℕ) (bf : ℕ) (ys : List EditEntry) (t v : List ℕ) : Type 0 where
  pub mid_first : List ℕ
  pub mid_second : List ℕ
  pub same : pa ++ mid_first ≡ pb ++ mid_second
  pub first : Walks Forward af xs (Ends la) t mid_first
  pub second : Walks Forward bf ys (Ends lb) mid_second v

-- K is x to y, and then L
pub record Moved (x y : List ℕ) (L : List ℕ → List ℕ → Type 0) (t v : List ℕ) : Type 0 where
  pub t_rest : List ℕ
  pub v_rest : List ℕ
  pub t_is : t ≡ x ++ t_rest
  pub v_is : v ≡ y ++ v_rest
  pub rest : L t_rest v_rest

pub record Passes (x y : List ℕ) (K L : List ℕ → List ℕ → Type 0) : Type 0 where
  pub go : (t v : List ℕ) → K t v → Moved x y L t v
  pub back : (t v : List ℕ) → L t v → K (x ++ t) (y ++ v)

module _ (la lb : ℕ) where
  -- the next edit of the first list
  pub passes_first : (e : EditEntry) (xs : List EditEntry) (pb : List ℕ) (af bf : ℕ) (ys : List EditEntry) → af ≤ e.at → e.at - af ≤ length pb
      → Passes (take (e.at - af) pb ++ e.removed) [] (Both la lb [] af (e ∷ xs) pb bf ys) (Both la lb e.added (e.at + length e.removed) xs (drop (e.at - af) pb) bf ys)
  passes_first e xs pb af bf ys later within =
      let d = e.at - af in
      let dl = length-take-le d pb within in
      let split = take-append-drop d pb in
      record {
        go = λ t v h.
            let g = h.first in
            let gap = g.gap in
            let k : length (take d pb) ≡ length g.kept = omega arith in
            let eq : take d pb ++ (drop d pb ++ h.mid_second) ≡ g.kept ++ (e.added ++ g.u_rest) = sym (append_assoc (take d pb) (drop d pb) h.mid_second) ∙ ap (λ (y : List ℕ). y ++ h.mid_second) split ∙ sym h.same ∙ g.u_is in
            let f = equal_prefixes (take d pb) g.kept (drop d pb ++ h.mid_second) (e.added ++ g.u_rest) k eq in
            record {
              t_rest = g.t_rest;
              v_rest = v;
              t_is = g.t_is ∙ ap (λ (y : List ℕ). y ++ (e.removed ++ g.t_rest)) (sym f.0) ∙ sym (append_assoc (take d pb) e.removed g.t_rest);
              v_is = refl;
              rest = record { mid_first = g.u_rest; mid_second = h.mid_second; same = sym f.1; first = g.rest; second = h.second };
            };
        back = λ t v h. record {
          mid_first = take d pb ++ (e.added ++ h.mid_first);
          mid_second = h.mid_second;
          same = ap (λ (y : List ℕ). take d pb ++ y) h.same ∙ sym (append_assoc (take d pb) (drop d pb) h.mid_second) ∙ ap (λ (y : List ℕ). y ++ h.mid_second) split;
          first = record { kept = take d pb; t_rest = t; u_rest = h.mid_first; gap = omega arith; t_is = append_assoc (take d pb) e.removed t; u_is = refl; rest = h.first };
          second = h.second;
        };
      }

  -- the next edit of the second list
  pub passes_second : (e : EditEntry) (ys : List EditEntry) (pa : List ℕ) (af bf : ℕ) (xs : List EditEntry) → bf ≤ e.at → e.at - bf ≤ length pa
      → Passes [] (take (e.at - bf) pa ++ e.added) (Both la lb pa af xs [] bf (e ∷ ys)) (Both la lb (drop (e.at - bf) pa) af xs e.removed (e.at + length e.removed) ys)
  passes_second e ys pa af bf xs later within =
      let d = e.at - bf in
      let dl = length-take-le d pa within in
      let split = take-append-drop d pa in
      record {
        go = λ t v h.
            let g = h.second in
            let gap = g.gap in
            let k : length (take d pa) ≡ length g.kept = omega arith in
            let eq : take d pa ++ (drop d pa ++ h.mid_first) ≡ g.kept ++ (e.removed ++ g.t_rest) = sym (append_assoc (take d pa) (drop d pa) h.mid_first) ∙ ap (λ (y : List ℕ). y ++ h.mid_first) split ∙ h.same ∙ g.t_is in
            let f = equal_prefixes (take d pa) g.kept (drop d pa ++ h.mid_first) (e.removed ++ g.t_rest) k eq in
            record {
              t_rest = t;
              v_rest = g.u_rest;
              t_is = refl;
              v_is = g.u_is ∙ ap (λ (y : List ℕ). y ++ (e.added ++ g.u_rest)) (sym f.0) ∙ sym (append_assoc (take d pa) e.added g.u_rest);
              rest = record { mid_first = h.mid_first; mid_second = g.t_rest; same = f.1; first = h.first; second = g.rest };
            };
        back = λ t v h. record {
          mid_first = h.mid_first;
          mid_second = take d pa ++ (e.removed ++ h.mid_second);
          same = ap (λ (y : List ℕ). y ++ h.mid_first) (sym split) ∙ append_assoc (take d pa) (drop d pa) h.mid_first ∙ ap (λ (y : List ℕ). take d pa ++ y) h.same;
          first = h.first;
          second = record { kept = take d pa; t_rest = h.mid_second; u_rest = v; gap = omega arith; t_is = refl; u_is = append_assoc (take d pa) e.added v; rest = h.second };
        };
      }

  -- bytes that the first list added and the second removes
  pub passes_met : (x pa pb : List ℕ) (af : ℕ) (xs : List EditEntry) (bf : ℕ) (ys : List EditEntry) → Passes [] [] (Both la lb (x ++ pa) af xs (x ++ pb) bf ys) (Both la lb pa af xs pb bf ys)
  passes_met x pa pb af xs bf ys = record {
    go = λ t v h. record {
      t_rest = t;
      v_rest = v;
      t_is = refl;
      v_is = refl;
      rest = record { mid_first = h.mid_first; mid_second = h.mid_second; same = append_cancel_left x (pa ++ h.mid_first) (pb ++ h.mid_second) (sym (append_assoc x pa h.mid_first) ∙ h.same ∙ append_assoc x pb h.mid_second); first = h.first; second = h.second };
    };
    back = λ t v h. record { mid_first = h.mid_first; mid_second = h.mid_second; same = append_assoc x pa h.mid_first ∙ ap (λ (y : List ℕ). x ++ y) h.same ∙ sym (append_assoc x pb h.mid_second); first = h.first; second = h.second };
  }

  -- bytes that the first list added and the second keeps
  pub passes_first_left : (pa : List ℕ) (af : ℕ) (xs : List EditEntry) (bf : ℕ) (ys : List EditEntry) → AreDisjoint lb (bf + length pa) ys → Passes [] pa (Both la lb pa af xs [] bf ys) (Both la lb [] af xs [] (bf + length pa) ys)
  passes_first_left pa af xs bf ys p = record {
    go = λ t v h.
        let q = pass lb bf pa ys h.mid_first v p (rw h.same h.second) in
        record { t_rest = t; v_rest = q.u_rest; t_is = refl; v_is = q.u_is; rest = record { mid_first = h.mid_first; mid_second = h.mid_first; same = refl; first = h.first; second = q.rest } };
    back = λ t v h. record { mid_first = h.mid_first; mid_second = pa ++ h.mid_second; same = ap (λ (y : List ℕ). pa ++ y) h.same; first = h.first; second = pass_back lb bf pa ys h.mid_second v h.second };
  }

  -- bytes that the second list removed and the first keeps
  pub passes_second_left : (pb : List ℕ) (af : ℕ) (xs : List EditEntry) (bf : ℕ) (ys : List EditEntry) → AreDisjoint la (af + length pb) xs → Passes pb [] (Both la lb [] af xs pb bf ys) (Both la lb [] (af + length pb) xs [] bf ys)
  passes_second_left pb af xs bf ys p = record {
    go = λ t v h.
        let q = pass_new la af pb xs t h.mid_second p (rw (← h.same) h.first) in
        record { t_rest = q.0; v_rest = v; t_is = q.1; v_is = refl; rest = record { mid_first = h.mid_second; mid_second = h.mid_second; same = refl; first = q.2; second = h.second } };
    back = λ t v h. record { mid_first = pb ++ h.mid_first; mid_second = h.mid_second; same = ap (λ (y : List ℕ). pb ++ y) h.same; first = pass_back la af pb xs t h.mid_first h.first; second = h.second };
  }

  -- bytes that both keep
  pub record Skips (n : ℕ) (K L : List ℕ → List ℕ → Type 0) : Type 0 where
    pub skip_moves : (t v : List ℕ) → K t v → (w : List ℕ) × (length w ≡ n) × Moved w w L t v
    pub skip_back : (w t v : List ℕ) → length w ≡ n → L t v → K (w ++ t) (w ++ v)

  skip_at : (n af bf : ℕ) (xs ys : List EditEntry) → AreDisjoint la (af + n) xs → AreDisjoint lb (bf + n) ys → (w r t v : List ℕ) → length w ≡ n → t ≡ w ++ r → Both la lb [] af xs [] bf ys t v → (w : List ℕ) × (length w ≡ n) × Moved w w (Both la lb [] (af + n) xs [] (bf + n) ys) t v
  skip_at n af bf xs ys p q w r t v wl e h =
      let f = pass la af w xs r h.mid_first (rw wl p) (rw (← e) h.first) in
      let s = pass lb bf w ys f.u_rest v (rw wl q) (rw (← f.u_is, h.same) h.second) in
      (w, wl, record { t_rest = r; v_rest = s.u_rest; t_is = e; v_is = s.u_is; rest = record { mid_first = f.u_rest; mid_second = f.u_rest; same = refl; first = rw (← wl) f.rest; second = rw (← wl) s.rest } })

  pub skips : (n af bf : ℕ) (xs ys : List EditEntry) → AreDisjoint la (af + n) xs → AreDisjoint lb (bf + n) ys → Skips n (Both la lb [] af xs [] bf ys) (Both la lb [] (af + n) xs [] (bf + n) ys)
  skips n af bf xs ys p q = record {
    skip_moves = λ t v h.
        let l = long la af n xs t h.mid_first p h.first in
        let wl = length-take-le n t l in
        let split = take-append-drop n t in
        skip_at n af bf xs ys p q (take n t) (drop n t) t v wl (sym split) h;
    skip_back = λ w t v wl h.
        let f = pass_back la af w xs t h.mid_first (rw wl h.first) in
        let s = pass_back lb bf w ys h.mid_second v (rw wl h.second) in
        record { mid_first = w ++ h.mid_first; mid_second = w ++ h.mid_second; same = ap (λ (y : List ℕ). w ++ y) h.same; first = f; second = s };
  }

-- two relations of texts hold of the same
pub record Alike (K L : List ℕ → List ℕ → Type 0) : Type 0 where
  pub go : (t v : List ℕ) → K t v → L t v
  pub back : (t v : List ℕ) → L t v → K t v

pub alike_then : (K L M : List ℕ → List ℕ → Type 0) → Alike K L → Alike L M → Alike K M
alike_then K L M p q = record { go = λ t v h. q.go t v (p.go t v h); back = λ t v h. p.back t v (q.back t v h) }

pub walks_map : (from : ℕ) (es : List EditEntry) (K L : ℕ → List ℕ → List ℕ → Type 0) → ((t v : List ℕ) → K (end_of from es) t v → L (end_of from es) t v) → (t v : List ℕ) → Walks Forward from es K t v → Walks Forward from es L t v
walks_map from [] K L f t v g = f t v g
walks_map from (e ∷ es) K L f t v g = record { kept = g.kept; t_rest = g.t_rest; u_rest = g.u_rest; gap = g.gap; t_is = g.t_is; u_is = g.u_is; rest = walks_map (e.at + length e.removed) es K L f g.t_rest g.u_rest g.rest }

pub walks_alike : (from : ℕ) (es : List EditEntry) (K L : ℕ → List ℕ → List ℕ → Type 0) → Alike (K (end_of from es)) (L (end_of from es)) → Alike (Walks Forward from es K) (Walks Forward from es L)
walks_alike from es K L a = record { go = walks_map from es K L a.go; back = walks_map from es L K a.back }
