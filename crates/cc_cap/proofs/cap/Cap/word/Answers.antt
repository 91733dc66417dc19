use Rattle.std.proofs.Common.{◌≡◌, ◌∙◌, sym}
use Rattle.cc_bounds.proofs.LawLemmas.{fields_law}
use Rattle.cc_cap.specs.Canonical.{IsWordOf, word_of_capability}
use Rattle.cc_cap.proofs.CanonicalLemmas.{IsWordOf-same, IsWordOf-word_of_capability}
use Rattle.cc_cap.proofs.cap.Cap.word.Goals as goal

is_word : (c : goal.After-pack) → IsWordOf c.args.self.now c.pack.result
is_word c =
    let own = c.fields.ensures in
    record {
      is_capability = own.is_capability;
      fields = c.fields.result;
      is_fields = record {
        permissions = own.permissions;
        reserved = own.reserved;
        flag = own.flag;
        otype = own.otype;
        bounds = (fields_law c.args.self.now.span _ _ _ own.is_capability.is_span).1 (own.ie, own.t, own.b);
        address = own.address;
      };
      is_word = c.pack.ensures;
    }

computed : (c : goal.After-pack) → c.pack.result ≡ word_of_capability c.args.self.now
computed c = IsWordOf-word_of_capability c.args.self.now c.pack.result (is_word c)

pub returns-clause-word : goal.returns-clause-word
returns-clause-word c = is_word c

pub returns-clause-computed : goal.returns-clause-computed
returns-clause-computed c = computed c

pub returns-clause-one_word : goal.returns-clause-one_word
returns-clause-one_word c word other = IsWordOf-word_of_capability c.args.self.now word other ∙ sym (computed c)

pub returns-clause-one_capability : goal.returns-clause-one_capability
returns-clause-one_capability c other also = IsWordOf-same other c.args.self.now c.pack.result also (is_word c)
