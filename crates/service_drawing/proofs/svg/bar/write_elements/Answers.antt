use Rattle.service_drawing.proofs.Pictures.{next_element}
use Rattle.service_drawing.specs.Bars.{element_text}
use Rattle.service_drawing.proofs.svg.bar.write_elements.Goals as goal

pub loop-i-preserved : goal.loop-i-preserved
loop-i-preserved c =
    next_element (element_text c.args.layout.now) c.loop-i.i _ _ _ c.loop-i.invariant
    (rw (c.color_of.ensures, c.element.ensures) at c.in_ok-write_rectangle.ensures)
