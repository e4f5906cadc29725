-- Texts of which a part is held: given one after another, and finally written in full or in part.
use Rattle.gu_engine.proofs.Words.{◌≡◌, ◌≤◌, ℕ, List, [], ◌++◌, length, Option, sym, ap, subst, ◌∙◌, append_assoc, arith, append-nil, length-append, WrotePart, wrote_then, Gives, GivesSome}
use Rattle.std.proofs.KnownBytes.{Appends-trans, Appends-nil}

-- nothing was given or written
pub gives_nothing : (held : List ℕ) (o : Option (List ℕ)) → Gives [] held held o o
gives_nothing held o = record { sent = []; appended = Appends-nil o; parts = append-nil held }

-- one text after another
pub gives_then : (text more held mid new : List ℕ) (o p q : Option (List ℕ)) → Gives text held mid o p → Gives more mid new p q → Gives (text ++ more) held new o q
gives_then text more held mid new o p q first second = record {
  sent = first.sent ++ second.sent;
  appended = Appends-trans o p q first.sent second.sent first.appended second.appended;
  parts =
      sym (append_assoc held text more)
      ∙ ap (λ (t : List ℕ). t ++ more) first.parts
      ∙ append_assoc first.sent mid more
      ∙ ap (λ (t : List ℕ). first.sent ++ t) second.parts
      ∙ sym (append_assoc first.sent second.sent new);
}

-- a text is given, and then held bytes are sent
pub gives_and_goes : (text held mid new : List ℕ) (o p q : Option (List ℕ)) → Gives text held mid o p → Gives [] mid new p q → Gives text held new o q
gives_and_goes text held mid new o p q first second = subst (λ (t : List ℕ). Gives t held new o q) (append-nil text) (gives_then text [] held mid new o p q first second)

-- a text is given
pub some_given : (text held new : List ℕ) (o p : Option (List ℕ)) → Gives text held new o p → GivesSome held new o p
some_given text held new o p gave = record { text = text; gave = gave }

-- and then another
pub some_then : (text held mid new : List ℕ) (o p q : Option (List ℕ)) → GivesSome held mid o p → Gives text mid new p q → GivesSome held new o q
some_then text held mid new o p q first second = record { text = first.text ++ text; gave = gives_then first.text text held mid new o p q first.gave second }

-- no more is held if nothing is given
pub fewer_held : (held kept : List ℕ) (o p : Option (List ℕ)) → Gives [] held kept o p → length held ≤ 65536 → length kept ≤ 65536
fewer_held held kept o p gives few = omega (arith, few, ap length gives.parts, length-append held [], length-append gives.sent kept)

-- a text, and then a prefix of what is held and of one more
pub wrote_after : (text more held mid : List ℕ) (o p q : Option (List ℕ)) → Gives text held mid o p → WrotePart (mid ++ more) p q → WrotePart (held ++ (text ++ more)) o q
wrote_after text more held mid o p q first part =
    let parts : first.sent ++ (mid ++ more) ≡ held ++ (text ++ more) =
    sym (append_assoc first.sent mid more) ∙ ap (λ (t : List ℕ). t ++ more) (sym first.parts) ∙ append_assoc held text more in
    subst (λ (t : List ℕ). WrotePart t o q) parts (wrote_then first.sent (mid ++ more) o p q first.appended part)
