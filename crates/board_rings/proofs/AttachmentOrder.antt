-- Attachments in order: where an attachment stands, and what stays in order.
use Rattle.std.proofs.Common.{◌≡◌, ℕ, zero, suc, ◌<◌, ◌≤◌, List, [], ◌∷◌, Bool, true, false, cond, not, ◌&&◌, ◌||◌, Option, Some, None, is_some, IfSome, IsNone, length, get_or, filter, inl, inr, refl, sym, ap, subst, ◌∙◌, arith}
use Rattle.std.specs.List.{find, insert, list_any, position, position_or_len, remove}
use Rattle.std.specs.List.Sorted.{IsPartitionedBy, IsPartitionPoint}
use Rattle.std.proofs.lemmas.Bool.{true≢false, and_from, and_parts, or_parts, not-true, not-false, lt-ltb, le-ltb, false_from_ne_true, cases_order}
use Rattle.std.proofs.lemmas.List.Folds.{list_any_at}
use Rattle.std.proofs.lemmas.List.Quantifiers.{position-Some}
use Rattle.std.proofs.lemmas.List.Sums.{position_or_len_is, fails_before_first, passes_at_first}
use Rattle.rows.specs.Rows.{change_first, remove_first}
use Rattle.rows.proofs.RowLemmas.{remove_is_remove_first, remove_first_none, find_is_there, find_none}
use Rattle.gateway_state.specs.Connections.{same_dest}
use Rattle.gateway_state.specs.declared.event.Dest.{Dest}
use Rattle.board_rings.specs.declared.inbound.Inbound.{Inbound}
use Rattle.board_rings.specs.Rings.{AttachmentState}
use Rattle.board_rings.specs.Attachments.{is_attachment_of, is_not_attachment_of, is_attached, is_from, comes_before, are_behind, are_in_order, with_look_in, with_received, IsWith, SeesNothing}
use Rattle.board_rings.proofs.DestOrder.{same_is_equal, before_trans, before_not_same, after_not_same, before_or_after}

-- each attachment that stands behind
behind_at : (dest : Dest) (attachments : List AttachmentState) (k : ℕ) (d : AttachmentState) → are_behind dest attachments ≡ true → k < length attachments → comes_before dest (get_or attachments k d).dest ≡ true
behind_at dest [] k d behind within = absurd (omega arith)
behind_at dest (attachment ∷ attachments) zero d behind within = (and_parts _ _ behind).0
behind_at dest (attachment ∷ attachments) (suc k) d behind within = behind_at dest attachments k d (and_parts _ _ behind).1 (omega arith)

behind_from : (dest : Dest) (attachments : List AttachmentState) → ((k : ℕ) (d : AttachmentState) → k < length attachments → comes_before dest (get_or attachments k d).dest ≡ true) → are_behind dest attachments ≡ true
behind_from dest [] each = refl
behind_from dest (attachment ∷ attachments) each = and_from _ _ (each 0 attachment (omega arith)) (behind_from dest attachments (λ k d h. each (suc k) d (omega arith)))

-- of two attachments, the one in front comes before
ordered_at : (attachments : List AttachmentState) (i j : ℕ) (d : AttachmentState) → are_in_order attachments ≡ true → i < j → j < length attachments → comes_before (get_or attachments i d).dest (get_or attachments j d).dest ≡ true
ordered_at [] i j d up less within = absurd (omega arith)
ordered_at (attachment ∷ attachments) i zero d up less within = absurd (omega arith)
ordered_at (attachment ∷ attachments) zero (suc j) d up less within = behind_at attachment.dest attachments j d (and_parts _ _ up).0 (omega arith)
ordered_at (attachment ∷ attachments) (suc i) (suc j) d up less within = ordered_at attachments i j d (and_parts _ _ up).1 (omega arith) (omega arith)

-- no attachment that comes before a connection stands behind one that doesn't
pub are_partitioned : (dest : Dest) (attachments : List AttachmentState) → are_in_order attachments ≡ true → IsPartitionedBy (λ attachment. comes_before attachment.dest dest) attachments
are_partitioned dest [] up i j d le within before = absurd (omega arith)
are_partitioned dest (attachment ∷ attachments) up zero zero d le within before = before
are_partitioned dest (attachment ∷ attachments) up zero (suc j) d le within before =
    before_trans attachment.dest (get_or attachments j d).dest dest (behind_at attachment.dest attachments j d (and_parts _ _ up).0 (omega arith)) before
are_partitioned dest (attachment ∷ attachments) up (suc i) zero d le within before = absurd (omega arith)
are_partitioned dest (attachment ∷ attachments) up (suc i) (suc j) d le within before = are_partitioned dest attachments (and_parts _ _ up).1 i j d (omega arith) (omega arith) before

-- where those end that come before it
pub first_from : (dest : Dest) (attachments : List AttachmentState) (n : ℕ) → n ≤ length attachments → IsPartitionPoint (λ attachment. comes_before attachment.dest dest ≡ true) (λ attachment. comes_before attachment.dest dest ≡ false) attachments n → n ≡ position_or_len (is_from dest) attachments
first_from dest [] n within point = omega arith
first_from dest (attachment ∷ attachments) n within point =
    sym (position_or_len_is (is_from dest) (attachment ∷ attachments) n attachment within (λ k h. ap not (point.0 k attachment (omega arith) h)) (λ h. ap not (point.1 n attachment (omega arith) h)))

at_place : {X : Type 0} (p : X → Bool) (xs : List X) (n : ℕ) → position_or_len p xs ≡ n → n < length xs → position p xs ≡ Some n
at_place p xs n is within = rw is (rw (lt-ltb n (length xs) within) refl)

no_place : {X : Type 0} (p : X → Bool) (xs : List X) → position_or_len p xs ≡ length xs → position p xs ≡ None
no_place p xs is = rw is (rw (le-ltb (length xs) (length xs) (omega arith)) refl)

none_before : (dest : Dest) (attachments : List AttachmentState) (n : ℕ) → length attachments ≤ n → ((k : ℕ) (d : AttachmentState) → k < n → comes_before (get_or attachments k d).dest dest ≡ true) → position_or_len (is_attachment_of dest) attachments ≡ length attachments
none_before dest [] n past before = refl
none_before dest (attachment ∷ attachments) n past before =
    position_or_len_is (is_attachment_of dest) (attachment ∷ attachments) (length (attachment ∷ attachments)) attachment (omega arith)
    (λ k h. before_not_same (get_or (attachment ∷ attachments) k attachment).dest dest (before k attachment (omega arith)))
    (λ h. absurd (omega arith))

module _ (dest : Dest) (attachments : List AttachmentState) (n : ℕ) (is : n ≡ position_or_len (is_from dest) attachments) where
  before_place : (k : ℕ) (d : AttachmentState) → k < n → comes_before (get_or attachments k d).dest dest ≡ true
  before_place k d h = not-false (comes_before (get_or attachments k d).dest dest) (fails_before_first (is_from dest) attachments k d (omega arith))

  at_from : (d : AttachmentState) → n < length attachments → comes_before (get_or attachments n d).dest dest ≡ false
  at_from d h = not-true (comes_before (get_or attachments n d).dest dest) (subst (λ m. is_from dest (get_or attachments m d) ≡ true) (sym is) (passes_at_first (is_from dest) attachments d (omega arith)))

  -- the attachment at that place, if it is this one's
  pub place_is : (attachment : AttachmentState) → n < length attachments → attachment ≡ get_or attachments n attachment → same_dest attachment.dest dest ≡ true → position (is_attachment_of dest) attachments ≡ Some n
  place_is attachment within here same =
      at_place (is_attachment_of dest) attachments n
      (position_or_len_is (is_attachment_of dest) attachments n attachment (omega arith) (λ k h. before_not_same (get_or attachments k attachment).dest dest (before_place k attachment h)) (λ _. subst (λ (l : AttachmentState). same_dest l.dest dest ≡ true) here same))
      within

  -- with no attachment there it isn't attached
  pub place_past : length attachments ≤ n → position (is_attachment_of dest) attachments ≡ None
  place_past past = no_place (is_attachment_of dest) attachments (none_before dest attachments n past before_place)

  -- nor with another's
  pub place_other : (attachment : AttachmentState) → are_in_order attachments ≡ true → n < length attachments → attachment ≡ get_or attachments n attachment → same_dest attachment.dest dest ≡ false → position (is_attachment_of dest) attachments ≡ None
  place_other attachment up within here other =
      no_place (is_attachment_of dest) attachments
      (position_or_len_is (is_attachment_of dest) attachments (length attachments) attachment (omega arith)
      (λ k h. elim (cases_order k n) [
        | inl same ↦ subst (λ m. is_attachment_of dest (get_or attachments m attachment) ≡ false) (sym same) (subst (λ (l : AttachmentState). same_dest l.dest dest ≡ false) here other)
        | inr (inl less) ↦ before_not_same (get_or attachments k attachment).dest dest (before_place k attachment less)
        | inr (inr more) ↦ false_from_ne_true (is_attachment_of dest (get_or attachments k attachment)) (λ same. true≢false (sym (subst (λ e. comes_before (get_or attachments n attachment).dest e ≡ true) (same_is_equal (get_or attachments k attachment).dest dest same) (ordered_at attachments n k attachment up more h)) ∙ at_from attachment within))
      ])
      (λ h. absurd (omega arith)))

-- the attachment at a place is the one that is found for its connection
pub place_guessed : (dest : Dest) (attachments : List AttachmentState) (n : ℕ) (attachment : AttachmentState) → are_in_order attachments ≡ true → n < length attachments → attachment ≡ get_or attachments n attachment → same_dest attachment.dest dest ≡ true → position (is_attachment_of dest) attachments ≡ Some n
place_guessed dest attachments n attachment up within here same =
    let at : same_dest (get_or attachments n attachment).dest dest ≡ true = subst (λ (l : AttachmentState). same_dest l.dest dest ≡ true) here same in
    at_place (is_attachment_of dest) attachments n
    (position_or_len_is (is_attachment_of dest) attachments n attachment (omega arith)
    (λ k h. before_not_same (get_or attachments k attachment).dest dest (subst (λ e. comes_before (get_or attachments k attachment).dest e ≡ true) (same_is_equal (get_or attachments n attachment).dest dest at) (ordered_at attachments k n attachment up h within)))
    (λ _. at))
    within

-- with one more
behind_more : (dest : Dest) (attachments : List AttachmentState) (n : ℕ) (attachment : AttachmentState) → are_behind dest attachments ≡ true → comes_before dest attachment.dest ≡ true → are_behind dest (insert attachments n attachment) ≡ true
behind_more dest [] zero attachment behind before = and_from _ _ before refl
behind_more dest [] (suc n) attachment behind before = and_from _ _ before refl
behind_more dest (l ∷ attachments) zero attachment behind before = and_from _ _ before behind
behind_more dest (l ∷ attachments) (suc n) attachment behind before =
    and_from _ _ (and_parts _ _ behind).0 (behind_more dest attachments n attachment (and_parts _ _ behind).1 before)

more_in_order : (attachments : List AttachmentState) (n : ℕ) (attachment : AttachmentState) → n ≤ length attachments → are_in_order attachments ≡ true → ((k : ℕ) (d : AttachmentState) → k < n → comes_before (get_or attachments k d).dest attachment.dest ≡ true) → ((k : ℕ) (d : AttachmentState) → n ≤ k → k < length attachments → comes_before attachment.dest (get_or attachments k d).dest ≡ true) → are_in_order (insert attachments n attachment) ≡ true
more_in_order [] zero attachment within up below above = refl
more_in_order [] (suc n) attachment within up below above = absurd (omega arith)
more_in_order (l ∷ attachments) zero attachment within up below above = and_from _ _ (behind_from attachment.dest (l ∷ attachments) (λ k d h. above k d (omega arith) h)) up
more_in_order (l ∷ attachments) (suc n) attachment within up below above =
    and_from _ _
    (behind_more l.dest attachments n attachment (and_parts _ _ up).0 (below 0 l (omega arith)))
    (more_in_order attachments n attachment (omega arith) (and_parts _ _ up).1 (λ k d h. below (suc k) d (omega arith)) (λ k d le h. above (suc k) d (omega arith) (omega arith)))

found_new : (p : AttachmentState → Bool) (attachments : List AttachmentState) (n : ℕ) (attachment : AttachmentState) → list_any p attachments ≡ false → p attachment ≡ true → find p (insert attachments n attachment) ≡ Some attachment
found_new p [] zero attachment none passes = rw passes refl
found_new p [] (suc n) attachment none passes = rw passes refl
found_new p (l ∷ attachments) zero attachment none passes = rw passes refl
found_new p (l ∷ attachments) (suc n) attachment none passes = let fails = or_parts (p l) (list_any p attachments) none in rw fails.0 (found_new p attachments n attachment fails.1 passes)

found_old : (p : AttachmentState → Bool) (attachments : List AttachmentState) (n : ℕ) (attachment : AttachmentState) → p attachment ≡ false → find p (insert attachments n attachment) ≡ find p attachments
found_old p [] zero attachment fails = rw fails refl
found_old p [] (suc n) attachment fails = rw fails refl
found_old p (l ∷ attachments) zero attachment fails = rw fails refl
found_old p (l ∷ attachments) (suc n) attachment fails = ap (λ rest. cond (p l) (Some l) rest) (found_old p attachments n attachment fails)

fails_at : (p : AttachmentState → Bool) (attachments : List AttachmentState) (k : ℕ) (d : AttachmentState) → list_any p attachments ≡ false → k < length attachments → p (get_or attachments k d) ≡ false
fails_at p [] k d none within = absurd (omega arith)
fails_at p (l ∷ attachments) zero d none within = (or_parts _ _ none).0
fails_at p (l ∷ attachments) (suc k) d none within = fails_at p attachments k d (or_parts _ _ none).1 (omega arith)

-- a new attachment at its place
pub with_one_more : (attachments : List AttachmentState) (n : ℕ) (attachment : AttachmentState) → are_in_order attachments ≡ true → n ≡ position_or_len (is_from attachment.dest) attachments → n ≤ length attachments → is_attached attachment.dest attachments ≡ false → IsWith attachment attachments (insert attachments n attachment)
with_one_more attachments n attachment up is within new = record {
  ordered = more_in_order attachments n attachment within up (λ k d h. before_place attachment.dest attachments n is k d h)
      (λ k d le h. let other = fails_at (is_attachment_of attachment.dest) attachments k d new h in
      before_or_after (get_or attachments k d).dest attachment.dest (false_from_ne_true (comes_before (get_or attachments k d).dest attachment.dest) (λ before. true≢false (sym (partition_back k d le h before) ∙ at_from attachment.dest attachments n is d (omega arith)))) other);
  found = λ dest. elim (same_dest attachment.dest dest) as (λ t. same_dest attachment.dest dest ≡ t → find (is_attachment_of dest) (insert attachments n attachment) ≡ cond t (Some attachment) (find (is_attachment_of dest) attachments)) [
    | true ↦ λ same. found_new (is_attachment_of dest) attachments n attachment (subst (λ e. list_any (is_attachment_of e) attachments ≡ false) (same_is_equal attachment.dest dest same) new) same
    | false ↦ λ other. found_old (is_attachment_of dest) attachments n attachment other
  ] refl;
}
  where
    partition_back : (k : ℕ) (d : AttachmentState) → n ≤ k → k < length attachments → comes_before (get_or attachments k d).dest attachment.dest ≡ true → comes_before (get_or attachments n d).dest attachment.dest ≡ true
    partition_back k d le h before = are_partitioned attachment.dest attachments up n k d le h before

-- with one less
none_behind : (dest : Dest) (attachments : List AttachmentState) → are_behind dest attachments ≡ true → filter (is_not_attachment_of dest) attachments ≡ attachments
none_behind dest [] behind = refl
none_behind dest (attachment ∷ attachments) behind =
    rw (after_not_same dest attachment.dest (and_parts _ _ behind).0) (ap (λ rest. attachment ∷ rest) (none_behind dest attachments (and_parts _ _ behind).1))

first_is_all : (dest : Dest) (attachments : List AttachmentState) → are_in_order attachments ≡ true → remove_first (is_attachment_of dest) attachments ≡ filter (is_not_attachment_of dest) attachments
first_is_all dest [] up = refl
first_is_all dest (attachment ∷ attachments) up =
    elim (same_dest attachment.dest dest) as (λ t. same_dest attachment.dest dest ≡ t → cond t attachments (attachment ∷ remove_first (is_attachment_of dest) attachments) ≡ cond (not t) (attachment ∷ filter (is_not_attachment_of dest) attachments) (filter (is_not_attachment_of dest) attachments)) [
      | true ↦ λ same. sym (none_behind dest attachments (subst (λ e. are_behind e attachments ≡ true) (same_is_equal attachment.dest dest same) (and_parts _ _ up).0))
      | false ↦ λ _. ap (λ rest. attachment ∷ rest) (first_is_all dest attachments (and_parts _ _ up).1)
    ] refl

-- what is left without the attachment of a connection
pub removed_is_rest : (dest : Dest) (attachments : List AttachmentState) (i : ℕ) → are_in_order attachments ≡ true → position (is_attachment_of dest) attachments ≡ Some i → remove attachments i ≡ filter (is_not_attachment_of dest) attachments
removed_is_rest dest attachments i up at = remove_is_remove_first (is_attachment_of dest) attachments i at ∙ first_is_all dest attachments up

pub rest_is_all : (dest : Dest) (attachments : List AttachmentState) → are_in_order attachments ≡ true → position (is_attachment_of dest) attachments ≡ None → attachments ≡ filter (is_not_attachment_of dest) attachments
rest_is_all dest attachments up none = sym (remove_first_none (is_attachment_of dest) attachments none) ∙ first_is_all dest attachments up

behind_rest : (dest : Dest) (p : AttachmentState → Bool) (attachments : List AttachmentState) → are_behind dest attachments ≡ true → are_behind dest (filter p attachments) ≡ true
behind_rest dest p [] behind = refl
behind_rest dest p (attachment ∷ attachments) behind =
    elim (p attachment) as (λ t. are_behind dest (cond t (attachment ∷ filter p attachments) (filter p attachments)) ≡ true) [
      | true ↦ and_from _ _ (and_parts _ _ behind).0 (behind_rest dest p attachments (and_parts _ _ behind).1)
      | false ↦ behind_rest dest p attachments (and_parts _ _ behind).1
    ]

pub rest_in_order : (p : AttachmentState → Bool) (attachments : List AttachmentState) → are_in_order attachments ≡ true → are_in_order (filter p attachments) ≡ true
rest_in_order p [] up = refl
rest_in_order p (attachment ∷ attachments) up =
    elim (p attachment) as (λ t. are_in_order (cond t (attachment ∷ filter p attachments) (filter p attachments)) ≡ true) [
      | true ↦ and_from _ _ (behind_rest attachment.dest p attachments (and_parts _ _ up).0) (rest_in_order p attachments (and_parts _ _ up).1)
      | false ↦ rest_in_order p attachments (and_parts _ _ up).1
    ]

-- with one changed, but for whose it is
module _ (p : AttachmentState → Bool) (f : AttachmentState → AttachmentState) (same : (attachment : AttachmentState) → (f attachment).dest ≡ attachment.dest) where
  behind_changed : (dest : Dest) (attachments : List AttachmentState) → are_behind dest (change_first p f attachments) ≡ are_behind dest attachments
  behind_changed dest [] = refl
  behind_changed dest (attachment ∷ attachments) =
      elim (p attachment) as (λ t. are_behind dest (cond t (f attachment ∷ attachments) (attachment ∷ change_first p f attachments)) ≡ are_behind dest (attachment ∷ attachments)) [
        | true ↦ ap (λ e. comes_before dest e && are_behind dest attachments) (same attachment)
        | false ↦ ap (λ rest. comes_before dest attachment.dest && rest) (behind_changed dest attachments)
      ]

  pub changed_in_order : (attachments : List AttachmentState) → are_in_order (change_first p f attachments) ≡ are_in_order attachments
  changed_in_order [] = refl
  changed_in_order (attachment ∷ attachments) =
      elim (p attachment) as (λ t. are_in_order (cond t (f attachment ∷ attachments) (attachment ∷ change_first p f attachments)) ≡ are_in_order (attachment ∷ attachments)) [
        | true ↦ ap (λ e. are_behind e attachments && are_in_order attachments) (same attachment)
        | false ↦ rw (behind_changed attachment.dest attachments, changed_in_order attachments) refl
      ]

-- where an attachment stands, its connection is attached
pub attached_there : (dest : Dest) (attachments : List AttachmentState) (i : ℕ) → position (is_attachment_of dest) attachments ≡ Some i → is_attached dest attachments ≡ true
attached_there dest [] i at = cc
attached_there dest (attachment ∷ attachments) i at =
    let found = position-Some (is_attachment_of dest) (attachment ∷ attachments) i attachment at in list_any_at (is_attachment_of dest) (attachment ∷ attachments) i attachment found.0 found.1

found_where_any : (p : AttachmentState → Bool) (attachments : List AttachmentState) → is_some (find p attachments) ≡ list_any p attachments
found_where_any p [] = refl
found_where_any p (attachment ∷ attachments) =
    elim (p attachment) as (λ t. is_some (cond t (Some attachment) (find p attachments)) ≡ (t || list_any p attachments)) [ true ↦ refl | false ↦ found_where_any p attachments ]

-- a connection has a place where it is attached
pub placed_where_attached : (dest : Dest) (attachments : List AttachmentState) → is_some (position (is_attachment_of dest) attachments) ≡ is_attached dest attachments
placed_where_attached dest attachments =
    elim (position (is_attachment_of dest) attachments) as (λ o. position (is_attachment_of dest) attachments ≡ o → is_some o ≡ is_attached dest attachments) [
      | Some i ↦ λ at. sym (attached_there dest attachments i at)
      | None ↦ λ none. sym (ap is_some (find_none (is_attachment_of dest) attachments none)) ∙ found_where_any (is_attachment_of dest) attachments
    ] refl

-- what is received from an attachment leaves the attachments in order
pub received_in_order : (dest : Dest) (old new : List AttachmentState) (r : Option (Inbound × ℕ)) → are_in_order old ≡ true → IfSome r (λ r. new ≡ change_first (is_attachment_of dest) (with_received r.0 r.1) old) → (IsNone r → new ≡ change_first (is_attachment_of dest) with_look_in old) → are_in_order new ≡ true
received_in_order dest old new (Some (item, seen)) up some none = ap are_in_order some ∙ changed_in_order (is_attachment_of dest) (with_received item seen) (λ attachment. refl) old ∙ up
received_in_order dest old new None up some none = ap are_in_order (none refl) ∙ changed_in_order (is_attachment_of dest) with_look_in (λ attachment. refl) old ∙ up

-- nothing is seen in the ring of an attachment that sees nothing
pub sees_nothing_at : (dest : Dest) (attachments : List AttachmentState) (i : ℕ) (attachment : AttachmentState) → position (is_attachment_of dest) attachments ≡ Some i → attachment ≡ get_or attachments i attachment → attachment.seen ≡ 0 → SeesNothing dest attachments
sees_nothing_at dest attachments i attachment at here none = λ found is.
    let same : Some attachment ≡ Some found = sym (find_is_there (is_attachment_of dest) attachments i attachment at here) ∙ is in
    let one : attachment ≡ found = cc in
    ap (λ (l : AttachmentState). l.seen) (sym one) ∙ none

-- nor where there is no attachment
pub sees_nothing_nowhere : (dest : Dest) (attachments : List AttachmentState) → position (is_attachment_of dest) attachments ≡ None → SeesNothing dest attachments
sees_nothing_nowhere dest attachments at = λ found is. absurd (let wrong : None ≡ Some found = sym (find_none (is_attachment_of dest) attachments at) ∙ is in cc)
