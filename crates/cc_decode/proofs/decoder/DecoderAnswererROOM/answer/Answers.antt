use Rattle.std.proofs.Common.{ℕ, Option, ap₂}
use Rattle.cc_decode.specs.declared.options.Tags.{Tags}
use Rattle.cc_decode.proofs.AnswerLemmas.{is_answer}
use Rattle.cc_decode.proofs.decoder.DecoderAnswererROOM.answer.Goals as goal

pub returns : goal.returns
returns c =
    let options = c.args.self.now.options in
    let reply = c.push_reply-is_error.ensures in
    record {
      text = reply.text;
      out_is = reply.written;
      answered = record {
        answer = is_answer options c.args.entry.now c.read_entry-word.result reply.text c.push_reply-is_error.result c.read_entry-word.ensures.found
            c.read_entry-word.ensures.value reply.is_reply;
        options = ap₂ (λ (at : Option ℕ) (tags : Option Tags). record options { at = at; tags = tags }) c.next_place-self.ensures c.next_tags-self.ensures;
        goes_on = c.requires.goes_on;
        left = c.fewer-self.ensures;
      };
    }
