-- The three views of edits are one: the pieces, the relation and the walk.
use Rattle.std.proofs.Common.{◌≡◌, ◌≢◌, ℕ, ◌+◌, ◌-◌, ◌≤◌, List, [], ◌∷◌, ◌++◌, length, take, drop, true}
use Rattle.std.proofs.Common.{false, cond, leb, Result, Ok, Err, refl, arith, sym, ap, ◌∙◌, append_assoc}
use Rattle.std.proofs.Common.{length-append, ◌&&◌}
use Rattle.std.specs.Str.{bytes_eq}
use Rattle.std.proofs.lemmas.Bool.{leb-true, le-leb, and_parts}
use Rattle.std.proofs.lemmas.List.{append-nil, take_at, drop_at, take-append-drop, length-take-le}
use Rattle.std.proofs.lemmas.Slice.Eq.{bytes_eq-Decides}
use Rattle.edit_record.specs.declared.lists.change.Refused.{Refused}
use Rattle.edit_record.specs.declared.lists.change.Refused.TheVariants.{Differs, Memory}
use Rattle.edit_record.specs.declared.lists.direction.Direction.{Direction}
use Rattle.edit_record.specs.declared.lists.direction.Direction.TheVariants.{Forward, Backward}
use Rattle.edit_record.specs.Lists.Pieces.{EditEntry, Piece, Kept, Changed, old_text, new_text}
use Rattle.edit_record.specs.Lists.Pieces.{changed_entries, removed_len, added_len}
use Rattle.edit_record.specs.Lists.Apply.{read_bytes, written_bytes, prepend, matches_at, walk}
use Rattle.edit_record.specs.Lists.Inner.Walks.{Walks, SameRest}

pub matches_at_is : (from at : ℕ) (bytes t : List ℕ) → from ≤ at → at - from ≤ length t
    → matches_at from at bytes t ≡ bytes_eq bytes (take (length bytes) (drop (at - from) t))
matches_at_is from at bytes t p q =
    let a = le-leb from at p in let b = le-leb (at - from) (length t) q in rw (a, b) refl

-- ---- pieces and the relation

walks_prepend : (from : ℕ) (b : List ℕ) (es : List EditEntry) (t u : List ℕ)
    → Walks Forward (from + length b) es SameRest t u
    → Walks Forward from es SameRest (b ++ t) (b ++ u)
walks_prepend from b [] t u g = ap (λ (x : List ℕ). b ++ x) g
walks_prepend from b (e ∷ es) t u g =
    let gap = g.gap in
    record {
      kept = b ++ g.kept;
      t_rest = g.t_rest;
      u_rest = g.u_rest;
      gap = rw length-append (omega arith);
      t_is = rw append_assoc (ap (λ (x : List ℕ). b ++ x) g.t_is);
      u_is = rw append_assoc (ap (λ (x : List ℕ). b ++ x) g.u_is);
      rest = g.rest;
    }

pub walks_from_pieces : (from : ℕ) (ps : List Piece)
    → Walks Forward from (changed_entries from ps) SameRest (old_text ps) (new_text ps)
walks_from_pieces from [] = refl
walks_from_pieces from (Kept b ∷ ps) =
    walks_prepend from b (changed_entries (from + length b) ps) (old_text ps) (new_text ps)
    (walks_from_pieces (from + length b) ps)
walks_from_pieces from (Changed r n ∷ ps) = record {
  kept = [];
  t_rest = old_text ps;
  u_rest = new_text ps;
  gap = omega arith;
  t_is = refl;
  u_is = refl;
  rest = walks_from_pieces (from + length r) ps;
}

pub record InPieces (from : ℕ) (es : List EditEntry) (t u : List ℕ) : Type 0 where
  pub pieces : List Piece
  pub old_is : old_text pieces ≡ t
  pub new_is : new_text pieces ≡ u
  pub edits_are : changed_entries from pieces ≡ es

pub pieces_from_walks : (from : ℕ) (es : List EditEntry) (t u : List ℕ)
    → Walks Forward from es SameRest t u
    → InPieces from es t u
pieces_from_walks from [] t u g =
    record {
      pieces = Kept t ∷ [];
      old_is = simp append-nil;
      new_is = simp append-nil g;
      edits_are = refl;
    }
pieces_from_walks from (e ∷ es) t u g =
    let p = pieces_from_walks (e.at + length e.removed) es g.t_rest g.u_rest g.rest in
    record {
      pieces = Kept g.kept ∷ Changed e.removed e.added ∷ p.pieces;
      old_is = rw p.old_is (sym g.t_is);
      new_is = rw p.new_is (sym g.u_is);
      edits_are = rw (g.gap, p.edits_are) refl;
    }

-- ---- the relation from the other side

abbrev pub opposite : Direction → Direction
opposite Forward = Backward
opposite Backward = Forward

pub flip : (direction : Direction) (from : ℕ) (es : List EditEntry) (t u : List ℕ)
    → Walks direction from es SameRest t u → Walks (opposite direction) from es SameRest u t
flip direction from [] t u g = sym g
flip Backward from (e ∷ es) t u g =
    record {
      kept = g.kept;
      t_rest = g.u_rest;
      u_rest = g.t_rest;
      gap = g.gap;
      t_is = g.u_is;
      u_is = g.t_is;
      rest = flip Backward (e.at + length e.removed) es g.t_rest g.u_rest g.rest;
    }
flip Forward from (e ∷ es) t u g =
    record {
      kept = g.kept;
      t_rest = g.u_rest;
      u_rest = g.t_rest;
      gap = g.gap;
      t_is = g.u_is;
      u_is = g.t_is;
      rest = flip Forward (e.at + length e.removed) es g.t_rest g.u_rest g.rest;
    }

pub lengths : (from : ℕ) (es : List EditEntry) (t u : List ℕ) → Walks Forward from es SameRest t u
    → length u + removed_len es ≡ length t + added_len es
lengths from [] t u g = ap (λ (x : List ℕ). length x + 0) (sym g)
lengths from (e ∷ es) t u g =
    let h = lengths (e.at + length e.removed) es g.t_rest g.u_rest g.rest in
    rw (g.t_is, g.u_is, length-append, length-append, length-append, length-append) (omega arith)

-- ---- the walk and the relation

pub record MatchesAt (from at : ℕ) (bytes t : List ℕ) : Type 0 where
  pub later : from ≤ at
  pub in_bounds : at - from ≤ length t
  pub is : t ≡ take (at - from) t ++ (bytes ++ drop (length bytes) (drop (at - from) t))

prefix_is : (bytes s : List ℕ) → bytes ≡ take (length bytes) s → s ≡ bytes ++ drop (length bytes) s
prefix_is bytes s e =
    sym (take-append-drop (length bytes) s)
    ∙ ap (λ (x : List ℕ). x ++ drop (length bytes) s) (sym e)

pub matches_at_true : (from at : ℕ) (bytes t : List ℕ) → matches_at from at bytes t ≡ true
    → MatchesAt from at bytes t
matches_at_true from at bytes t e =
    let p = and_parts (leb from at)
    (leb (at - from) (length t)
    && bytes_eq bytes (take (length bytes) (drop (at - from) t))) e in
    let q = and_parts (leb (at - from) (length t))
    (bytes_eq bytes (take (length bytes) (drop (at - from) t))) p.1 in
    let same = (bytes_eq-Decides bytes (take (length bytes) (drop (at - from) t))).0 q.1 in
    record {
      later = leb-true from at p.0;
      in_bounds = leb-true (at - from) (length t) q.0;
      is = sym (take-append-drop (at - from) t)
          ∙ ap (λ (x : List ℕ). take (at - from) t ++ x)
          (prefix_is bytes (drop (at - from) t) same);
    }

prepend_ok : (bytes u : List ℕ) (r : Result (List ℕ) Refused) → prepend bytes r ≡ Ok u
    → (x : List ℕ) × (r ≡ Ok x) × (u ≡ bytes ++ x)
prepend_ok bytes u (Ok x) e = (x, refl, cc)
prepend_ok bytes u (Err d) e = absurd cc

pub walks_from_walk : (direction : Direction) (i from : ℕ) (es : List EditEntry) (t u : List ℕ)
    → walk direction i from es t ≡ Ok u → Walks direction from es SameRest t u
walks_from_walk direction i from [] t u e = cc
walks_from_walk direction i from (d ∷ es) t u e =
    elim (matches_at from d.at (read_bytes direction d) t) as
    (λ b. matches_at from d.at (read_bytes direction d) t ≡ b
    → cond b (prepend (take (d.at - from) t ++ written_bytes direction d)
    (walk direction (i + 1) (d.at + length d.removed) es
    (drop (length (read_bytes direction d)) (drop (d.at - from) t)))) (Err (Differs 0 i))
    ≡ Ok u → Walks direction from (d ∷ es) SameRest t u) [
      | true ↦ λ s f.
          let w = prepend_ok (take (d.at - from) t ++ written_bytes direction d) u
          (walk direction (i + 1) (d.at + length d.removed) es
          (drop (length (read_bytes direction d)) (drop (d.at - from) t))) f in
          let h = matches_at_true from d.at (read_bytes direction d) t s in
          let later = h.later in
          record {
            kept = take (d.at - from) t;
            t_rest = drop (length (read_bytes direction d)) (drop (d.at - from) t);
            u_rest = w.0;
            gap = rw (length-take-le (d.at - from) t h.in_bounds) (omega arith);
            t_is = h.is;
            u_is = w.2 ∙ append_assoc (take (d.at - from) t) (written_bytes direction d) w.0;
            rest = walks_from_walk direction (i + 1) (d.at + length d.removed) es
                (drop (length (read_bytes direction d)) (drop (d.at - from) t)) w.0 w.1;
          }
      | false ↦ λ s f. absurd cc
    ] refl e

pub matches_at_again : (from at : ℕ) (kept bytes rest : List ℕ) → from + length kept ≡ at
    → matches_at from at bytes (kept ++ (bytes ++ rest)) ≡ true
matches_at_again from at kept bytes rest gap =
    let g : length kept ≡ at - from = omega arith in
    let l : from ≤ at = omega arith in
    let r : at - from ≤ length (kept ++ (bytes ++ rest)) = rw length-append (omega arith) in
    matches_at_is from at bytes (kept ++ (bytes ++ rest)) l r
    ∙ rw (drop_at kept (bytes ++ rest) (at - from) g, take_at bytes rest (length bytes) refl)
    ((bytes_eq-Decides bytes bytes).1 refl)

pub walk_from_walks : (direction : Direction) (i from : ℕ) (es : List EditEntry) (t u : List ℕ)
    → Walks direction from es SameRest t u → walk direction i from es t ≡ Ok u
walk_from_walks direction i from [] t u g = ap (λ (x : List ℕ). Ok x) g
walk_from_walks direction i from (d ∷ es) t u g =
    let gap = g.gap in
    let n : length g.kept ≡ d.at - from = omega arith in
    let s = matches_at_again from d.at g.kept (read_bytes direction d) g.t_rest g.gap in
    let ih =
    walk_from_walks direction (i + 1) (d.at + length d.removed) es g.t_rest g.u_rest g.rest in
    rw (
      g.t_is,
      s,
      take_at g.kept (read_bytes direction d ++ g.t_rest)
          (d.at - from) n,
      drop_at g.kept (read_bytes direction d ++ g.t_rest)
          (d.at - from) n,
      drop_at (read_bytes direction d) g.t_rest
          (length (read_bytes direction d)) refl,
      ih,
    )
    (ap (λ (x : List ℕ). Ok x)
    (append_assoc g.kept (written_bytes direction d) g.u_rest ∙ sym g.u_is))

-- ---- the walk never returns Memory

pub prepend_err : (bytes : List ℕ) (f : Refused) (r : Result (List ℕ) Refused)
    → prepend bytes r ≡ Err f → r ≡ Err f
prepend_err bytes f (Ok x) e = absurd cc
prepend_err bytes f (Err d) e = e

pub walk_never_memory : (direction : Direction) (i from : ℕ) (es : List EditEntry) (t : List ℕ)
    → walk direction i from es t ≢ Err Memory
walk_never_memory direction i from [] t = λ e. cc
walk_never_memory direction i from (d ∷ es) t =
    elim (matches_at from d.at (read_bytes direction d) t) as
    (λ b. cond b (prepend (take (d.at - from) t ++ written_bytes direction d)
    (walk direction (i + 1) (d.at + length d.removed) es
    (drop (length (read_bytes direction d)) (drop (d.at - from) t)))) (Err (Differs 0 i))
    ≢ Err Memory) [
      | true ↦ λ e. walk_never_memory direction (i + 1) (d.at + length d.removed) es
          (drop (length (read_bytes direction d)) (drop (d.at - from) t))
          (prepend_err (take (d.at - from) t ++ written_bytes direction d) Memory
          (walk direction (i + 1) (d.at + length d.removed) es
          (drop (length (read_bytes direction d)) (drop (d.at - from) t))) e)
      | false ↦ λ e. cc
    ]
