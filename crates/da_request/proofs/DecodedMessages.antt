-- Messages in front of decoded ones.
use Rattle.std.proofs.Common.{◌≡◌, refl, sym, ◌∙◌, ap, Option, Some, None, List, [], ◌∷◌, ◌++◌, option_map}
use Rattle.std.proofs.lemmas.List.{append_assoc}
use Rattle.da_base.specs.Words.{Bytes, from_base64}
use Rattle.da_request.specs.Attempts.{with_decoded, decoded}

-- none in front
pub none_before : (texts : Option (List Bytes)) → option_map (λ rest. [] ++ rest) texts ≡ texts
none_before None = refl
none_before (Some texts) = refl

-- one more in front
pub one_before : (messages : List Bytes) (message : Bytes) (texts : Option (List Bytes)) → option_map (λ rest. (messages ++ message ∷ []) ++ rest) texts ≡ option_map (λ rest. messages ++ rest) (with_decoded (Some message) texts)
one_before messages message None = refl
one_before messages message (Some texts) = ap Some (append_assoc messages (message ∷ []) texts)

-- the next text decoded is put behind the messages
pub one_more : (messages after : List Bytes) (message text : Bytes) (texts more : List Bytes) → after ≡ messages ++ message ∷ [] → texts ≡ text ∷ more → from_base64 text ≡ Some message
    → option_map (λ rest. after ++ rest) (decoded more) ≡ option_map (λ rest. messages ++ rest) (decoded texts)
one_more messages after message text texts more put here is =
    ap (λ front. option_map (λ rest. front ++ rest) (decoded more)) put
    ∙ one_before messages message (decoded more)
    ∙ ap (λ read. option_map (λ rest. messages ++ rest) (with_decoded read (decoded more))) (sym is)
    ∙ ap (λ all. option_map (λ rest. messages ++ rest) (decoded all)) (sym here)
